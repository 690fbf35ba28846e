use Rattle.std.proofs.Common.{ℕ, ◌≡◌, ◌<◌}
use Rattle.propnet.specs.Values.{lane}
use Rattle.position.proofs.net_taking.take_lane.Given as goal

-- the words before this one are written
abbrev pub invariant-loop-p : goal.invariant-loop-p
invariant-loop-p l = (q j : ℕ) → q < l.p → j < 64 → lane l.lanes j q ≡ lane l.states l.k q
