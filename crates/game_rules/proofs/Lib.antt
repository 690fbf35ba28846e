mod Marks
mod States
mod PlanLemmas
mod RuleRooms
mod Ranges
mod StandingLemmas
mod RoleStates
mod ByNumbers
mod ByRules
mod Trees
mod LegalRules
mod StuckRules
mod AfterRules
mod GoalRules
mod GameRules
mod OneGame
pub mod Facts
