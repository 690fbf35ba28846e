use Rattle.std.proofs.Common.{Bool, false, cond, get_or, ap, ◌∙◌}
use Rattle.statement.specs.declared.kind.Kind.TheVariants.{Fixed}
use Rattle.game_rules.specs.declared.standing.Standing.{Standing}
use Rattle.game_rules.specs.RulePlay.{goal_value}
use Rattle.game_rules.proofs.PlanLemmas.{greatest_more}
use Rattle.game_rules.proofs.reading.best_goal.Goals as goal

pub loop-place-preserved : goal.loop-place-preserved
loop-place-preserved c =
    let d : Standing = record { atom = 0; kind = Fixed } in
    let here = get_or c.args.list.now c.loop-place.place d in
    greatest_more (λ (p : Standing). cond (get_or c.args.right.now.items p.atom false) (goal_value c.args.role p.kind) 0) c.args.list.now
    c.loop-place.place d c.loop-place.best c.value_of.result c.greater-best.result
    c.loop-place-test.true c.loop-place.invariant
    (c.value_of.ensures ∙ ap (λ (b : Bool). cond b (goal_value c.args.role here.kind) 0) c.is_marked.ensures) c.greater-best.ensures
