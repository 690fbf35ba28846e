use Rattle.statement.specs.Solving.{solve_lines, IsSolveReply}
use Rattle.program_searches.specs.Searching.{named_by}
use Rattle.program_searches.proofs.Facts.{start_is, reply_is, told_from}
use Rattle.program_run.proofs.over_game.solve_by_workers.Goals as goal

pub told_from_start-requires-clause-fits : goal.told_from_start-requires-clause-fits
told_from_start-requires-clause-fits g c κs within =
    let game = named_by g.G.Game c.args.game.now in
    let sought = c.args.sought.now in
    let is = IsSolveReply game sought.role.now sought.depth sought.at_bound sought.after.now in
    (start_is g.G.Game c.args.game.now solve_lines is c.in_ok-start.field-0 (c.in_ok-start.ensures solve_lines) c.in-Ok.start c.in-Ok.is).fits

pub told_from_start-requires-clause-role : goal.told_from_start-requires-clause-role
told_from_start-requires-clause-role g c κs within =
    let game = named_by g.G.Game c.args.game.now in
    let sought = c.args.sought.now in
    let is = IsSolveReply game sought.role.now sought.depth sought.at_bound sought.after.now in
    (start_is g.G.Game c.args.game.now solve_lines is c.in_ok-start.field-0 (c.in_ok-start.ensures solve_lines) c.in-Ok.start c.in-Ok.is).role

pub returns-in-Ok : goal.returns-in-Ok
returns-in-Ok g c =
    let game = named_by g.G.Game c.args.game.now in
    let sought = c.args.sought.now in
    let is = IsSolveReply game sought.role.now sought.depth sought.at_bound sought.after.now in
    told_from g.G.Game c.args.game.now solve_lines is c.in-Ok.start c.told_from_start.result
    (start_is g.G.Game c.args.game.now solve_lines is c.in_ok-start.field-0 (c.in_ok-start.ensures solve_lines) c.in-Ok.start c.in-Ok.is) c.told_from_start.ensures

pub returns-in-Err : goal.returns-in-Err
returns-in-Err g c =
    let game = named_by g.G.Game c.args.game.now in
    let sought = c.args.sought.now in
    let is = IsSolveReply game sought.role.now sought.depth sought.at_bound sought.after.now in
    reply_is g.G.Game c.args.game.now solve_lines is c.in_ok-start.field-0 (c.in_ok-start.ensures solve_lines) c.in-Err.reply c.in-Err.is
