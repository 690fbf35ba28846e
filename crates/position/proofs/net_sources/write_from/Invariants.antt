use Rattle.std.proofs.Common.{ℕ, ◌≡◌, ◌<◌, length, get_or}
use Rattle.propnet.specs.Values.{lane}
use Rattle.position.proofs.net_sources.write_from.Given as goal

-- the words before this one are written
abbrev pub invariant-loop-p : goal.invariant-loop-p
invariant-loop-p l = record {
  size : length l.words ≡ length l.initial.words;
  base : (j q : ℕ) → j < length l.places → q < l.p → lane l.words j q ≡ lane l.states (get_or l.places j 0) q;
}
