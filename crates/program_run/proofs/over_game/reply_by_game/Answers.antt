use Rattle.statement.specs.Solving.{IsSolveReply}
use Rattle.program_words.specs.Asked.{query_about}
use Rattle.program_searches.specs.Searching.{named_by}
use Rattle.program_replies.proofs.KeptFacts.{game_over, reply_kept}
use Rattle.program_run.proofs.over_game.reply_by_game.Goals as goal

pub returns-in-Solve-clause-reply : goal.returns-in-Solve-clause-reply
returns-in-Solve-clause-reply g c =
    let game = c.args.game.now in
    let source = g.G.GroundGame.source game in
    let query = query_about c.args.inquiry.now in
    let sought = c.in-Solve.sought in
    reply_kept query c.args.width c.args.rules.now source (g.G.Game.rules game) (g.G.Game.role_name game) (g.G.Game.move_name game)
    c.solve_by_workers.result c.requires.plays
    (game_over query source (named_by g.G.Game game) (λ told. IsSolveReply told sought.role.now sought.depth sought.at_bound sought.after.now)
    c.solve_by_workers.result c.requires.plays.5 (λ width ts reply h. rw c.in-Solve.is h) c.solve_by_workers.ensures)
