use Rattle.std.proofs.Common.{length, sym, arith, below_more}
use Rattle.std.specs.Prelude.{◌==◌}
use Rattle.game.proofs.Roles.{list_any_range, list_any_range_none, none_at_start, some_at_start}
use Rattle.game.proofs.stuck.is_stuck.Goals as goal

pub returns-then-is_none : goal.returns-then-is_none
returns-then-is_none g c =
    let legal = (g.G.Game.rules c.args.game.now).legal (g.G.Game.state c.args.game.now c.args.p.now) in
    sym (list_any_range (λ k. length (legal k) == 0) 0 (g.G.Game.rules c.args.game.now).roles c.loop-role.role (omega arith) (omega arith)
    (none_at_start (legal c.loop-role.role) c.legal.result c.legal.ensures c.if-is_none.ensures))

pub loop-role-preserved : goal.loop-role-preserved
loop-role-preserved g c =
    let legal = (g.G.Game.rules c.args.game.now).legal (g.G.Game.state c.args.game.now c.args.p.now) in
    below_more _ _ c.loop-role.invariant (some_at_start (legal c.loop-role.role) c.legal.result c.legal.ensures c.if-is_none.ensures)

pub returns : goal.returns
returns g c =
    let legal = (g.G.Game.rules c.args.game.now).legal (g.G.Game.state c.args.game.now c.args.p.now) in
    sym (list_any_range_none (λ k. length (legal k) == 0) 0 (g.G.Game.rules c.args.game.now).roles (λ k _ below. c.loop-role.invariant k (omega arith)))
