use Rattle.std.proofs.Common.{ℕ, ◌<◌, ◌≤◌, get_or}
use Rattle.position.proofs.net_sources.end_place.Given as goal

-- all so far are less
abbrev pub invariant-loop-l : goal.invariant-loop-l
invariant-loop-l l = record {
  few : l.end ≤ 64;
  above : (j : ℕ) → j < l.l → get_or l.places j 0 < l.end;
}
