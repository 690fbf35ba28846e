use Rattle.std.proofs.Common.{ℕ, ◌≡◌, ◌≤◌, List, length}
use Rattle.std.specs.Io.KnownBytes.{Consumes}
use Rattle.program_requests.specs.Feeds.{IsFeed, ahead, HasFront}
use Rattle.program_requests.specs.Lines.{IsLine}
use Rattle.program_requests.proofs.lines.next_line.Given as goal

abbrev pub invariant-loop : goal.invariant-loop
invariant-loop g l =
    IsFeed l.feed × (l.line.filled ≤ length l.line.room.items) × (length l.line.room.items ≡ length l.fn.line.room.items)
    × ((bytes : List ℕ) × IsLine bytes × HasFront l.line bytes
    × Consumes (ahead l.fn.feed (g.R.Read.remaining l.fn.input)) (ahead l.feed (g.R.Read.remaining l.input)) bytes)
