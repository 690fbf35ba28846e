use Rattle.std.proofs.Common.{ℕ, ◌<◌, ◌≤◌, get_or}
use Rattle.position.proofs.net_sources.first_place.Given as goal

-- none so far is less
abbrev pub invariant-loop-l : goal.invariant-loop-l
invariant-loop-l l = (j : ℕ) → j < l.l → l.first ≤ get_or l.places j 0
