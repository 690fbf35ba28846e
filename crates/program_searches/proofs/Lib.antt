mod BothWorths
mod Deepened
mod Errs
mod Exact
mod FirstMoves
mod Held
mod MoveWorths
mod NoRole
mod Pieces
mod Placing
mod SameWorth
mod Searches
mod Settles
mod Spacing
mod Turning
pub mod Facts
mod Leading
mod Lines
mod OneText
mod OneTree
mod Ranges
pub mod MoveFacts
