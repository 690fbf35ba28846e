use Rattle.std.proofs.Common.{◌≡◌, length, ap, ◌∙◌, arith}
use Rattle.std.proofs.Math.ListN.{length-set}
use Rattle.game.proofs.Facts.{one_known}
use Rattle.test_net.proofs.networks.turn_at.Goals as goal

pub loop-role-preserved : goal.loop-role-preserved
loop-role-preserved g c =
    let rules = g.G.Game.rules c.args.game.now in
    let size : length c.loop-role.joint.items ≡ rules.roles = c.loop-role.invariant.size in
    record {
      size = ap length c.put_move.ensures ∙ simp length-set size;
      known = one_known rules.moves c.loop-role.joint.items c.put_move.new.joint.items c.loop-role.role c.in-Some.number (omega arith)
          c.put_move.ensures
          c.in-Some.ensures c.loop-role.invariant.known;
    }
