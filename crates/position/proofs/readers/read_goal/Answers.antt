use Rattle.std.proofs.Common.{Bool, cond, max, get_or, ap, ◌∙◌}
use Rattle.position.proofs.ReaderLemmas.{goal_more}
use Rattle.position.proofs.readers.read_goal.Goals as goal

pub loop-i-preserved : goal.loop-i-preserved
loop-i-preserved c = λ on tells.
    let goals = c.args.goals.now in
    let i = c.loop-i.i in
    let x = get_or goals i (0, 0) in
    goal_more on goals i (0, 0) c.loop-i.best c.raised-best.result c.loop-i-test.true (c.loop-i.invariant on tells)
    (c.raised-best.ensures ∙ ap (λ (b : Bool). max (cond b x.1 0) c.loop-i.best) (c.holds_at.ensures on tells))
