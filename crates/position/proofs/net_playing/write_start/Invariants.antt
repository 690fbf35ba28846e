use Rattle.std.proofs.Common.{ℕ, ◌≡◌, ◌<◌, false, get_or}
use Rattle.position.specs.NetState.{is_lane_on}
use Rattle.position.proofs.net_playing.write_start.Given as goal

-- the words before this one are written
abbrev pub invariant-loop-p : goal.invariant-loop-p
invariant-loop-p l = (q : ℕ) → q < l.p → is_lane_on l.states 0 q ≡ get_or l.ground.starts.items q false
