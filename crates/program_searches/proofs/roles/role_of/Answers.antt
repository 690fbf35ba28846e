use Rattle.program_searches.specs.Histories.{named}
use Rattle.program_searches.proofs.OneTree.{no_role}
use Rattle.program_searches.proofs.roles.role_of.Goals as goal

pub returns-then-trees-ne1-clause-found : goal.returns-then-trees-ne1-clause-found
returns-then-trees-ne1-clause-found g c =
    no_role (named (g.G.Game.rules c.args.game.now) (g.G.Game.role_name c.args.game.now) (g.G.Game.move_name c.args.game.now)) c.args.trees.now
    c.if-trees-ne1.true
