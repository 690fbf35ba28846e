use Rattle.std.proofs.Common.{◌≡◌, ℕ, ◌<◌, [], take, ◌+◌}
use Rattle.smallvec.specs.SmallVec.{small_vec_len}
use Rattle.kif.specs.View.{trees_in}
use Rattle.statement.specs.Tree.{parts_of}
use Rattle.statement.specs.Played.{turn_faults, state_after, nth_tree}
use Rattle.game.proofs.replaying.replay.Given as goal

-- the turns before this one have no fault, and the state is the one after them
abbrev pub invariant-loop-place : goal.invariant-loop-place
invariant-loop-place g l =
    let rules = g.G.Game.rules l.game in
    let names = g.G.Game.move_name l.game in
    let turns = trees_in l.turns in
    record {
      here : g.G.Game.fits l.game l.here;
      next : g.G.Game.fits l.game l.next;
      size : small_vec_len l.joint ≡ rules.roles;
      state : g.G.Game.state l.game l.here ≡ state_after rules names (take l.place turns);
      clear : (k : ℕ) → k < l.place → turn_faults rules names (state_after rules names (take k turns)) (parts_of (nth_tree turns k)) (k + 1) ≡ [];
    }
