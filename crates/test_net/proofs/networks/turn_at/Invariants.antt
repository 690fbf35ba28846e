use Rattle.std.proofs.Common.{◌≡◌, ℕ, ◌<◌, get_or}
use Rattle.smallvec.specs.SmallVec.{small_vec_len}
use Rattle.test_net.proofs.networks.turn_at.Given as goal

-- every role before this one has a move
abbrev pub invariant-loop-role : goal.invariant-loop-role
invariant-loop-role g l = record {
  size : small_vec_len l.joint ≡ (g.G.Game.rules l.game).roles;
  known : (k : ℕ) → k < l.role → get_or l.joint.items k 0 < (g.G.Game.rules l.game).moves k;
}
