mod Ascending
mod Roles
mod FirstFaults
mod LegalMoves
mod Alike
mod PlayRange
mod SamePlays
mod PlainValues
mod Settled
mod ManyStates
mod TurnsTogether
mod KeyLemmas
pub mod Facts
