use Rattle.std.proofs.Common.{◌≡◌, ◌<◌, ◌≤◌, ℕ}
use Rattle.std.specs.Int.{bit_at}
use Rattle.propnet.specs.Values.{lane}
use Rattle.position.proofs.net_keys.pack_lane.Given as goal

-- the bits before this one are there, and none behind them
abbrev pub invariant-loop-p : goal.invariant-loop-p
invariant-loop-p l = record {
  made : (q : ℕ) → q < l.p → bit_at l.word q ≡ lane l.states l.k q;
  fresh : (q : ℕ) → l.p ≤ q → bit_at l.word q ≡ 0;
}
