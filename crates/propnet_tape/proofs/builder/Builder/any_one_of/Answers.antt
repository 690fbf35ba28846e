use Rattle.std.proofs.Common.{◌∙◌, refl}
use Rattle.propnet_tape.proofs.Literals.{step_refl, step_then, groups_after}
use Rattle.propnet_tape.proofs.GateGroupLemmas.{any_turned}
use Rattle.propnet_tape.proofs.GateGroupLemmas.{ok_then}
use Rattle.propnet_tape.proofs.builder.Builder.any_one_of.Goals as goal
use Rattle.propnet_tape.proofs.builder.Builder.any_one_of.Goals.{then-is_crowded+in_ok-turn_group, else-is_crowded}

pub loop-number-init : goal.loop-number-init
loop-number-init c = record { step = step_refl c.args.self.now c.requires.built; literals = c.requires.literals; value = λ bits one. refl }

pub loop-number-preserved : goal.loop-number-preserved
loop-number-preserved c = elim c.if-is_crowded.branch [
  | then-is_crowded+in_ok-turn_group w ↦ rw (w.self-is, w.queue-is) record {
    step = step_then c.args.self.now c.loop-number.self w.turn_group.new.self c.loop-number.invariant.step w.turn_group.ensures.step;
    literals = w.in_ok-turn_group.ensures.literals;
    value = λ bits one. w.in_ok-turn_group.ensures.value bits (groups_after c.args.self.now c.loop-number.self c.loop-number.invariant.step bits one)
        ∙ c.loop-number.invariant.value bits one;
  }
  | else-is_crowded w ↦ rw (w.self-is, w.queue-is) c.loop-number.invariant
]

pub returns-clause-value : goal.returns-clause-value
returns-clause-value c = ok_then c.any.result _ _
    (λ l h. any_turned c.args.self.now c.loop-number.self c.any.new.self c.loop-number.queue.items c.args.queue.now.items l
    c.loop-number.invariant.step c.any.ensures.step c.loop-number.invariant.value h)
    c.any.ensures.value
