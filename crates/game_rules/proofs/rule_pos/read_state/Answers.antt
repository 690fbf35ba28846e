use Rattle.std.proofs.Common.{ℕ, Bool, List, [], length, false, get_or, ap, subst, ◌∙◌}
use Rattle.ground_instances.specs.GroundView.{inputs_of, kinds_of, instances_of}
use Rattle.game_rules.specs.declared.standing.Sought.TheVariants.{Ends}
use Rattle.game_rules.specs.declared.standing.Standing.{Standing}
use Rattle.game_rules.specs.RulePlay.{marked, holds}
use Rattle.game_rules.specs.Marks.{AreMarks}
use Rattle.game_rules.specs.Standings.{ends_among}
use Rattle.game_rules.proofs.States.{ends_same, reads_same}
use Rattle.game_rules.proofs.Facts.{ends_all}
use Rattle.game_rules.proofs.PlanLemmas.{sought_within}
use Rattle.game_rules.proofs.rule_pos.read_state.Goals as goal

pub has_ended-p-requires : goal.has_ended-p-requires
has_ended-p-requires c =
    let game = c.args.game.now in
    sought_within Ends (kinds_of game.played) game.plan.ends.items c.deref-2.result.now (length c.evaluate.new.right.items) game.planned.ends
    c.deref-2.ensures.value c.evaluate.ensures.marks.size

pub returns-clause-state : goal.returns-clause-state
returns-clause-state c =
    let g = c.args.game.now.played in
    let kinds = kinds_of g in
    let right = c.evaluate.new.right.items in
    let read = λ (a : ℕ). get_or right a false in
    let now = holds kinds (instances_of g) (marked c.args.p.now.base.items) [] in
    let m : AreMarks right (length kinds) now =
    subst (λ (bs : List Bool). AreMarks right (length kinds) (holds kinds (instances_of g) (marked bs) [])) c.deref.ensures.value
    c.evaluate.ensures.marks in
    record {
      room = record { base = c.requires.base; right = m.size; roles = c.read_roles.ensures.room };
      ended = c.has_ended-p.ensures ∙ ap (λ (ps : List Standing). ends_among ps read) (c.deref-2.ensures.value ∙ c.args.game.now.planned.ends)
          ∙ ends_all kinds read
          ∙ ends_same kinds read now m.each;
      roles = reads_same kinds read now (inputs_of g) c.read_roles.new.roles.items m.each c.read_roles.ensures.read;
    }
