use Rattle.statement.specs.Networks.{IsNetReply}
use Rattle.statement.specs.Moving.{IsMovesReply}
use Rattle.statement.specs.Holding.{IsStateReply}
use Rattle.statement.specs.ForRole.{IsRoleReply}
use Rattle.program_words.specs.Asked.{query_about}
use Rattle.program_searches.specs.declared.asked_alone.Wanted.TheVariants.{Whole, Within, OfEachMove, LineOfEachMove, OfEachDepth}
use Rattle.program_searches.specs.Histories.{named}
use Rattle.program_searches.specs.Windows.{wanted_lines}
use Rattle.program_replies.proofs.Over.{if_over, game_over, rules_over}
use Rattle.program_replies.proofs.over_game.reply_over_keeping.Goals as goal

pub returns-in-Net-clause-reply : goal.returns-in-Net-clause-reply
returns-in-Net-clause-reply g c =
    if_over (query_about c.args.inquiry.now) (g.G.GroundGame.source c.args.game.now) IsNetReply c.reply_to_net.result
    (λ width ts reply h. rw c.in-Net.is h) (rw c.instantiation.ensures at c.reply_to_net.ensures)

pub returns-in-Moves-clause-reply : goal.returns-in-Moves-clause-reply
returns-in-Moves-clause-reply g c =
    let game = c.args.game.now in
    game_over (query_about c.args.inquiry.now) (g.G.GroundGame.source game) (named (g.G.Game.rules game) (g.G.Game.role_name game) (g.G.Game.move_name game))
    (λ told. IsMovesReply told c.in-Moves.after.now) c.moves_reply.result c.requires.game (λ width ts reply h. rw c.in-Moves.is h) c.moves_reply.ensures

pub returns-in-State-clause-reply : goal.returns-in-State-clause-reply
returns-in-State-clause-reply g c =
    let game = c.args.game.now in
    rules_over (query_about c.args.inquiry.now) (g.G.GroundGame.source game) (named (g.G.Game.rules game) (g.G.Game.role_name game) (g.G.Game.move_name game))
    (λ rules told. IsStateReply rules told c.in-State.after.now) c.state_reply.result c.requires.game (λ width ts reply h. rw c.in-State.is h)
    c.state_reply.ensures

pub returns-in-Solve-clause-reply : goal.returns-in-Solve-clause-reply
returns-in-Solve-clause-reply g c =
    let game = c.args.game.now in
    let sought = c.in-Solve.sought in
    game_over (query_about c.args.inquiry.now) (g.G.GroundGame.source game) (named (g.G.Game.rules game) (g.G.Game.role_name game) (g.G.Game.move_name game))
    (λ told. IsRoleReply told sought.role.now (λ r. wanted_lines Whole told r sought.depth sought.at_bound) sought.after.now)
    c.role_reply.result c.requires.game (λ width ts reply h. rw c.in-Solve.is h) c.role_reply.ensures.reply

pub returns-in-SolveWithin-clause-reply : goal.returns-in-SolveWithin-clause-reply
returns-in-SolveWithin-clause-reply g c =
    let game = c.args.game.now in
    let sought = c.in-SolveWithin.sought in
    game_over (query_about c.args.inquiry.now) (g.G.GroundGame.source game) (named (g.G.Game.rules game) (g.G.Game.role_name game) (g.G.Game.move_name game))
    (λ told. IsRoleReply told sought.role.now (λ r. wanted_lines (Within c.in-SolveWithin.window) told r sought.depth sought.at_bound) sought.after.now)
    c.role_reply-in-SolveWithin.result c.requires.game (λ width ts reply h. rw c.in-SolveWithin.is h) c.role_reply-in-SolveWithin.ensures.reply

pub returns-in-Values-clause-reply : goal.returns-in-Values-clause-reply
returns-in-Values-clause-reply g c =
    let game = c.args.game.now in
    let sought = c.in-Values.sought in
    game_over (query_about c.args.inquiry.now) (g.G.GroundGame.source game) (named (g.G.Game.rules game) (g.G.Game.role_name game) (g.G.Game.move_name game))
    (λ told. IsRoleReply told sought.role.now (λ r. wanted_lines OfEachMove told r sought.depth sought.at_bound) sought.after.now)
    c.role_reply-in-Values.result c.requires.game (λ width ts reply h. rw c.in-Values.is h) c.role_reply-in-Values.ensures.reply

pub returns-in-ValuesWithLines-clause-reply : goal.returns-in-ValuesWithLines-clause-reply
returns-in-ValuesWithLines-clause-reply g c =
    let game = c.args.game.now in
    let sought = c.in-ValuesWithLines.sought in
    game_over (query_about c.args.inquiry.now) (g.G.GroundGame.source game) (named (g.G.Game.rules game) (g.G.Game.role_name game) (g.G.Game.move_name game))
    (λ told. IsRoleReply told sought.role.now (λ r. wanted_lines LineOfEachMove told r sought.depth sought.at_bound) sought.after.now)
    c.role_reply-in-ValuesWithLines.result c.requires.game (λ width ts reply h. rw c.in-ValuesWithLines.is h) c.role_reply-in-ValuesWithLines.ensures.reply

pub returns-in-Deepen-clause-reply : goal.returns-in-Deepen-clause-reply
returns-in-Deepen-clause-reply g c =
    let game = c.args.game.now in
    let sought = c.in-Deepen.sought in
    game_over (query_about c.args.inquiry.now) (g.G.GroundGame.source game) (named (g.G.Game.rules game) (g.G.Game.role_name game) (g.G.Game.move_name game))
    (λ told. IsRoleReply told sought.role.now (λ r. wanted_lines OfEachDepth told r sought.depth sought.at_bound) sought.after.now)
    c.role_reply-in-Deepen.result c.requires.game (λ width ts reply h. rw c.in-Deepen.is h) c.role_reply-in-Deepen.ensures.reply
