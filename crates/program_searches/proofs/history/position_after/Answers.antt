use Rattle.std.proofs.Common.{rules}
use Rattle.statement.specs.Tree.{trees_of}
use Rattle.kif.specs.View.{trees_in}
use Rattle.statement.specs.Reading.{Reads}
use Rattle.program_searches.specs.Histories.{named}
use Rattle.program_searches.proofs.Leading.{text_leads_to, text_is_refused}
use Rattle.program_searches.proofs.history.position_after.Goals as goal

pub returns-in-Ok-clause-played : goal.returns-in-Ok-clause-played
returns-in-Ok-clause-played g c =
    let game = g.G.Game in
    let read : Reads c.args.after.now (trees_of (trees_in c.deref.result.now)) = search rules in
    text_leads_to (named (game.rules c.args.game.now) (game.role_name c.args.game.now) (game.move_name c.args.game.now)) c.args.after.now
    (trees_in c.deref.result.now) (game.state c.args.game.now) c.after_turns.result read c.after_turns.ensures.played

pub returns-in-Ok-clause-refused : goal.returns-in-Ok-clause-refused
returns-in-Ok-clause-refused g c =
    let game = g.G.Game in
    let read : Reads c.args.after.now (trees_of (trees_in c.deref.result.now)) = search rules in
    text_is_refused (named (game.rules c.args.game.now) (game.role_name c.args.game.now) (game.move_name c.args.game.now)) c.args.after.now
    (trees_in c.deref.result.now) c.after_turns.result read c.after_turns.ensures.refused
