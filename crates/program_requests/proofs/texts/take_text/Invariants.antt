use Rattle.std.proofs.Common.{ℕ, ◌≡◌, ◌+◌, ◌≤◌, List, length}
use Rattle.std.specs.Io.KnownBytes.{Consumes}
use Rattle.program_requests.specs.Feeds.{IsFeed, ahead, HasFront}
use Rattle.program_requests.proofs.texts.take_text.Given as goal

abbrev pub invariant-loop-left : goal.invariant-loop-left
invariant-loop-left g l =
    IsFeed l.feed × (l.text.filled ≤ length l.text.room.items) × (length l.text.room.items ≡ length l.fn.text.room.items)
    × ((bytes : List ℕ) × (length bytes + l.left ≡ l.fn.size) × HasFront l.text bytes
    × Consumes (ahead l.fn.feed (g.R.Read.remaining l.fn.input)) (ahead l.feed (g.R.Read.remaining l.input)) bytes)

abbrev pub decreases-loop-left : goal.decreases-loop-left
decreases-loop-left g l = l.left
