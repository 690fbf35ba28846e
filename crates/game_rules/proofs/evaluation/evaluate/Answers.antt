use Rattle.std.proofs.Common.{[], length, ◌∙◌}
use Rattle.ground_instances.specs.GroundView.{kinds_of, instances_of}
use Rattle.game_rules.specs.GroundFacts.{fits}
use Rattle.game_rules.specs.RulePlay.{marked}
use Rattle.game_rules.proofs.Marks.{none_found, kept_holds}
use Rattle.game_rules.proofs.PlanLemmas.{with_given}
use Rattle.game_rules.proofs.evaluation.evaluate.Goals as goal

pub returns-clause-marks : goal.returns-clause-marks
returns-clause-marks c =
    let game = c.args.game.now in
    let kinds = kinds_of game.played in
    let s = marked c.args.base.now in
    let j = c.args.joint.now in
    let begun = none_found c.clear.new.marks.items (length kinds) _ c.clear.ensures.size c.requires c.clear.ensures.each in
    let given = with_given kinds s j [] c.clear.new.marks.items c.give.new.right.items c.deref.result.now
    (c.deref.ensures.value ∙ game.planned.given) begun c.give.ensures.size c.give.ensures.each in
    kept_holds kinds (instances_of game.played) s j c.give.new.right.items c.go_through.new.right.items (fits game.played).kept_within given
    c.go_through.ensures.marks
