-- This crate's own: what `run` promises does not rest on it.
-- What a plan of play keeps of an instantiation: the atoms that are asked for in play, by kind.
use Rattle.std.specs.Prelude.{ℕ, ◌≡◌, ◌<◌, Bool, ◌==◌, ◌&&◌, List, length, get_or}
use Rattle.std.specs.List.{list_any}
use Rattle.statement.specs.declared.kind.Kind.{Kind}
use Rattle.ground_instances.specs.declared.flat_ground.FlatGround.{FlatGround}
use Rattle.ground_instances.specs.GroundView.{inputs_of, kinds_of}
use Rattle.game_rules.specs.declared.naming.Naming.TheVariants.{ByNext, ByLegal}
use Rattle.game_rules.specs.declared.standing.Sought.TheVariants.{Given, Named, Goals, Ends}
use Rattle.game_rules.specs.declared.standing.Standing.{Standing}
use Rattle.game_rules.specs.declared.plan.RolePlan.{RolePlan}
use Rattle.game_rules.specs.declared.plan.RulePlan.{RulePlan}
use Rattle.statement.specs.Rules.{State, Turn}
use Rattle.game_rules.specs.RulePlay.{is_given}
use Rattle.game_rules.specs.Standings.{all_standing}

-- the state or the joint move makes an atom right that is listed
abbrev pub list_gives : List Standing → State → Turn → ℕ → Bool
list_gives list s j a = list_any (λ p. is_given s j p.kind && (p.atom == a)) list

-- the lists of a role
pub record IsRolePlanOf (kinds : List Kind) (r : ℕ) (plan : RolePlan) : Type 0 where
  pub legals : plan.legals.items ≡ all_standing (Named (ByLegal r)) kinds
  pub goals : plan.goals.items ≡ all_standing (Goals r) kinds

-- the lists are those of the instantiation
pub record IsPlanOf (g : FlatGround) (plan : RulePlan) : Type 0 where
  pub given : plan.given.items ≡ all_standing Given (kinds_of g)
  pub nexts : plan.nexts.items ≡ all_standing (Named ByNext) (kinds_of g)
  pub ends : plan.ends.items ≡ all_standing Ends (kinds_of g)
  pub size : length plan.roles.items ≡ length (inputs_of g)
  pub roles : (r : ℕ) (d : RolePlan) → r < length (inputs_of g) → IsRolePlanOf (kinds_of g) r (get_or plan.roles.items r d)
