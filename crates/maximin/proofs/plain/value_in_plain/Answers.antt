use Rattle.std.proofs.Common.{w16, rules as facts}
use Rattle.std.proofs.lemmas.Int.{to_z-of_z}
use mir.Val.{SFits}
use Rattle.game.specs.Value.{Answers}
use Rattle.statement.specs.Value.{value}
use Rattle.maximin.proofs.plain.value_in_plain.Goals as goal

pub returns-clause-answers : goal.returns-clause-answers
returns-clause-answers g c =
    let r = c.value_in-worth.result in
    let fits : SFits w16 r = search facts in
    let ea = to_z-of_z w16 c.args.a (search facts) in
    let eb = to_z-of_z w16 c.args.b (search facts) in
    let worth = value (g.G.Game.rules c.args.game.now) c.args.asked.role c.args.asked.depth c.args.asked.at (g.G.Game.state c.args.game.now c.args.p.now) in
    let answers : Answers worth c.args.a c.args.b r = rw (ea, eb) at c.value_in-worth.ensures.answers in
    rw (to_z-of_z w16 r fits) answers
