use Rattle.std.proofs.Common.{◌≡◌, ◌<◌, ◌/◌, ℕ, length}
use Rattle.game.specs.Keys.{has_bit}
use Rattle.position.specs.NetState.{is_lane_on}
use Rattle.position.proofs.net_keys.write_lane_key.Given as goal

-- the words before this one are written
abbrev pub invariant-loop-w : goal.invariant-loop-w
invariant-loop-w l = (q : ℕ) → q < length l.states → q / 64 < l.w → has_bit l.key q ≡ is_lane_on l.states l.k q
