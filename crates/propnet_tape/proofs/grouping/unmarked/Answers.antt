use Rattle.std.proofs.Common.{◌+◌, ◌*◌, ◌<◌, ℕ, List, sym, subst, arith}
use Rattle.std.specs.Prelude.{All}
use Rattle.std.proofs.lemmas.List.Elements.{All-push}
use Rattle.propnet_tape.proofs.GateGroupLemmas.{unmarked_more, marked_skip}
use Rattle.propnet_tape.proofs.grouping.unmarked.Goals as goal
use Rattle.propnet_tape.proofs.grouping.unmarked.Goals.{then-not-marks-place+in_ok-push, else-not-marks-place}

pub loop-place-preserved : goal.loop-place-preserved
loop-place-preserved c =
    elim c.if-not-marks-place.branch [
      | then-not-marks-place+in_ok-push w ↦ rw w.literals-is record {
        value = λ v. unmarked_more v c.args.group.from c.loop-place.place w.given.result c.args.marks.now c.loop-place.literals.items
            w.push.new.self.items c.loop-place-test.true w.if-not-marks-place.true w.given.ensures.slot w.in_ok-push.ensures.items
            (c.loop-place.invariant.value v);
        below = subst (λ (ys : List ℕ). All (λ j. j < 2 + 2 * c.args.group.to) ys) (sym w.in_ok-push.ensures.items)
            (All-push (λ j. j < 2 + 2 * c.args.group.to) c.loop-place.literals.items w.given.result c.loop-place.invariant.below
            (omega (arith, w.given.ensures.slot, c.loop-place-test.true, c.requires.size)));
      }
      | else-not-marks-place w ↦ rw w.literals-is record {
        value = λ v. marked_skip v c.args.group.from c.loop-place.place c.args.marks.now c.loop-place.literals.items c.loop-place-test.true
            w.if-not-marks-place.false (c.loop-place.invariant.value v);
        below = c.loop-place.invariant.below;
      }
    ]
