use Rattle.std.proofs.Common.{◌≡◌, ℕ, ◌<◌, false, get_or}
use Rattle.std.specs.Prelude.{is_none, unwrap_or}
use Rattle.smallvec.specs.SmallVec.{small_vec_len}
use Rattle.kif.specs.View.{trees_in}
use Rattle.statement.specs.Played.{named_move}
use Rattle.game.proofs.replaying.read_moves.Given as goal

-- every role before this one has a legal move, which is written
abbrev pub invariant-loop-role : goal.invariant-loop-role
invariant-loop-role g l =
    let named = named_move (g.G.Game.rules l.game) (g.G.Game.move_name l.game) (g.G.Game.state l.game l.p) (trees_in l.parts) in
    record {
      size : small_vec_len l.joint ≡ (g.G.Game.rules l.game).roles;
      legal : (k : ℕ) → k < l.role → is_none (named k) ≡ false;
      known : (k : ℕ) → k < l.role → get_or l.joint.items k 0 < (g.G.Game.rules l.game).moves k;
      written : (k : ℕ) → k < l.role → get_or l.joint.items k 0 ≡ unwrap_or (named k) 0;
    }
