use Rattle.std.proofs.Common.{◌∙◌, [], ap, get_or}
use Rattle.std.specs.Prelude.{unwrap_or}
use Rattle.maximin.proofs.Ends.{last_worth}
use Rattle.maximin.proofs.end.judged_goal.Goals as goal

pub returns : goal.returns
returns g c =
    let rules = g.G.Game.rules c.args.game.now in
    let state = get_or (g.G.Game.judged c.args.game.now c.args.wide.now) c.args.place [] in
    c.unwrap_or.ensures ∙ ap (λ found. unwrap_or found 0) (c.verdict.ensures.told c.requires.place)
    ∙ last_worth rules c.args.asked.role c.args.asked.depth c.args.asked.at state c.requires.depth c.requires.bound
