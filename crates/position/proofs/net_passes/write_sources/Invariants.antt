use Rattle.std.proofs.Common.{ℕ, ◌≡◌, ◌<◌, get_or}
use Rattle.position.proofs.net_passes.write_sources.Given as goal

-- the words before this one are written
abbrev pub invariant-loop-p : goal.invariant-loop-p
invariant-loop-p l = (q : ℕ) → q < l.p → get_or l.words q 0 ≡ get_or l.from q 0
