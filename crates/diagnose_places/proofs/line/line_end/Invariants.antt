use Rattle.std.proofs.Common.{ℕ, ◌≤◌, ◌<◌, ◌≢◌, slice_index}
use Rattle.diagnose_places.proofs.line.line_end.Given as goal

abbrev pub invariant-loop-end : goal.invariant-loop-end
invariant-loop-end l = (k : ℕ) → l.offset ≤ k → k < l.end → slice_index l.text k ≢ 10
