use Rattle.std.proofs.Common.{ℕ, length, false, get_or, ◌∙◌}
use Rattle.ground_instances.specs.GroundView.{kinds_of, instances_of}
use Rattle.game_rules.specs.declared.naming.Naming.TheVariants.{ByNext}
use Rattle.game_rules.specs.declared.standing.Sought.TheVariants.{Named}
use Rattle.game_rules.specs.RulePlay.{marked, holds}
use Rattle.game_rules.proofs.PlanLemmas.{named_marks, sought_within}
use Rattle.game_rules.proofs.States.{named_same}
use Rattle.game_rules.proofs.rule_pos.mark_next.Goals as goal

pub mark_named-requires : goal.mark_named-requires
mark_named-requires c =
    let game = c.args.game.now in
    sought_within (Named ByNext) (kinds_of game.played) game.plan.nexts.items c.deref.result.now (length c.evaluate.new.right.items)
    game.planned.nexts c.deref.ensures.value c.evaluate.ensures.marks.size

pub returns-clause-after : goal.returns-clause-after
returns-clause-after c =
    let game = c.args.game.now in
    let g = game.played in
    let kinds = kinds_of g in
    let right = c.evaluate.new.right.items in
    let read = λ (a : ℕ). get_or right a false in
    let then = holds kinds (instances_of g) (marked c.args.base.now) c.args.joint.now in
    named_marks kinds read ByNext game.plan.nexts.items c.deref.result.now c.mark_named.new.marks.items (length c.args.next.now.items)
    (length g.starts.items) game.planned.nexts c.deref.ensures.value c.mark_named.ensures.marks c.requires.next
    ∙ named_same kinds read then ByNext (length g.starts.items) c.evaluate.ensures.marks.each
