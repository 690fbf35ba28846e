use Rattle.std.specs.List.{flat_map}
use Rattle.program_searches.specs.Histories.{named}
use Rattle.statement.specs.Moving.{legal_line}
use Rattle.program_searches.proofs.Lines.{one_number_more}
use Rattle.program_searches.proofs.moving.add_moves.Goals as goal

pub loop-role-preserved : goal.loop-role-preserved
loop-role-preserved g c =
    let game = g.G.Game in
    one_number_more (λ r. flat_map (legal_line (named (game.rules c.args.game.now) (game.role_name c.args.game.now) (game.move_name c.args.game.now)) r)
    ((game.rules c.args.game.now).legal (game.state c.args.game.now c.args.p.now) r))
    c.loop-role.role c.args.output.now.items _ _ c.loop-role.invariant c.in_ok-add_moves_of.ensures
