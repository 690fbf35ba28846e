mod OneHistory
mod OneMoves
mod OnePlay
mod OneReply
mod OneCheck
mod Counting
mod Describing
mod OneSolve
mod OneNet
mod Measuring
mod Askings
mod ReadAndAsked
mod OneRole
mod OneWithin
mod OneValues
mod OneState
mod Standings
mod OneLines
mod OneDeepening
mod Over
pub mod Facts
mod Plays
pub mod KeptFacts
