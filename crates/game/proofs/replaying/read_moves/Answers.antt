use Rattle.std.proofs.Common.{◌≡◌, ℕ, length, ap, ◌∙◌, arith, below_more}
use Rattle.std.specs.Prelude.{is_none, unwrap_or}
use Rattle.std.proofs.Math.ListN.{length-set}
use Rattle.kif.specs.View.{trees_in}
use Rattle.statement.specs.Played.{named_move}
use Rattle.game.proofs.FirstFaults.{named_at, role_refused, roles_right, list_by_index, one_written, one_known}
use Rattle.game.proofs.replaying.read_moves.Goals as goal

pub returns-in_default-clause-faults : goal.returns-in_default-clause-faults
returns-in_default-clause-faults g c =
    let rules = g.G.Game.rules c.args.game.now in
    let names = g.G.Game.move_name c.args.game.now in
    let state = g.G.Game.state c.args.game.now c.args.p.now in
    let at = named_at rules names state c.args.parts.now c.loop-role.role c.index-parts-role.result c.find_move.result (omega arith)
    c.index-parts-role.is c.find_move.ensures.found in
    role_refused rules names state (trees_in c.args.parts.now) c.args.number c.loop-role.role (omega arith) c.loop-role.invariant.legal
    (ap is_none (at ∙ c.in_default.is))

pub loop-role-preserved : goal.loop-role-preserved
loop-role-preserved g c =
    let rules = g.G.Game.rules c.args.game.now in
    let names = g.G.Game.move_name c.args.game.now in
    let state = g.G.Game.state c.args.game.now c.args.p.now in
    let named = named_move rules names state (trees_in c.args.parts.now) in
    let size : length c.loop-role.joint.items ≡ rules.roles = c.loop-role.invariant.size in
    let at = named_at rules names state c.args.parts.now c.loop-role.role c.index-parts-role.result c.find_move.result (omega arith)
    c.index-parts-role.is c.find_move.ensures.found in
    record {
      size = ap length c.put_move.ensures ∙ simp length-set size;
      legal = below_more _ _ c.loop-role.invariant.legal (ap is_none (at ∙ c.in-Some.is));
      known = one_known rules.moves c.loop-role.joint.items c.put_move.new.joint.items c.loop-role.role c.in-Some.chosen (omega arith)
          c.put_move.ensures
          c.in-Some.ensures.known c.loop-role.invariant.known;
      written = one_written (λ k. unwrap_or (named k) 0) c.loop-role.joint.items c.put_move.new.joint.items c.loop-role.role c.in-Some.chosen
          (omega arith) c.put_move.ensures
          (ap (λ r. unwrap_or r 0) (at ∙ c.in-Some.is)) c.loop-role.invariant.written;
    }

pub returns-clause-faults : goal.returns-clause-faults
returns-clause-faults g c =
    roles_right (g.G.Game.rules c.args.game.now) (g.G.Game.move_name c.args.game.now) (g.G.Game.state c.args.game.now c.args.p.now) (trees_in c.args.parts.now)
    c.args.number
    c.loop-role.role (omega arith) c.loop-role.invariant.legal

pub returns-clause-moves : goal.returns-clause-moves
returns-clause-moves g c =
    let rules = g.G.Game.rules c.args.game.now in
    let size : length c.loop-role.joint.items ≡ rules.roles = c.loop-role.invariant.size in
    let named = named_move rules (g.G.Game.move_name c.args.game.now) (g.G.Game.state c.args.game.now c.args.p.now) (trees_in c.args.parts.now) in
    list_by_index (λ k. unwrap_or (named k) 0) 0 rules.roles c.loop-role.joint.items size
    (λ k below. c.loop-role.invariant.written k (omega arith) ∙ ap (λ (n : ℕ). unwrap_or (named n) 0) (omega arith))

pub returns-clause-turn : goal.returns-clause-turn
returns-clause-turn g c = record {
  of_each_role = c.loop-role.invariant.size;
  each_known = λ q below. c.loop-role.invariant.known q (omega arith);
}
