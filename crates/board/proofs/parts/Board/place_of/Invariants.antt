use Rattle.std.proofs.Common.{ℕ, ◌-◌, ◌<◌, ◌≤◌, List, length, slice_index}
use Rattle.board.proofs.parts.Board.place_of.Given as goal

abbrev pub decreases-halves : goal.decreases-halves
decreases-halves g l = l.high - l.low

-- the task lies between the starts of the two moves
pub record Between (starts : List ℕ) (moves low high number : ℕ) : Type 0 where
  pub from : slice_index starts low ≤ number
  pub under : number < slice_index starts high
  pub apart : low < high
  pub within : high ≤ moves

abbrev pub invariant-halves : goal.invariant-halves
invariant-halves g l = Between l.starts (length l.self.terms.replies.items) l.low l.high l.number
