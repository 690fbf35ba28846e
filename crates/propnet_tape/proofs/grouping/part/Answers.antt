use Rattle.std.proofs.Common.{◌<◌, ℕ, List, sym, refl, subst, arith, length-set}
use Rattle.std.specs.Prelude.{All}
use Rattle.std.proofs.lemmas.List.Elements.{All-nil, All-push}
use Rattle.propnet_tape.proofs.GateGroupLemmas.{none_marked, part_marked, part_left}
use Rattle.propnet_tape.proofs.grouping.part.Goals as goal
use Rattle.propnet_tape.proofs.grouping.part.Goals.{in-Some, in-None+in_ok-push-in-None}

pub loop-literal-init : goal.loop-literal-init
loop-literal-init c = record {
  size = refl;
  value = λ w. rw (c.requires.empty, none_marked w c.args.group.from c.args.marks.now c.requires.none) refl;
  below = λ n all. subst (λ (xs : List ℕ). All (λ i. i < n) xs) (sym c.requires.empty) (All-nil (λ i. i < n));
}

pub loop-literal-preserved : goal.loop-literal-preserved
loop-literal-preserved c =
    let i = c.loop-literal.literal-index in
    let xs = c.args.queue.now in
    let from = c.args.group.from in
    elim c.match-place_in.branch [
      | in-Some w ↦ rw (w.marks-is, w.rest-is) record {
        size = simp length-set c.loop-literal.invariant.size;
        value = λ v. part_marked v xs c.loop-literal.rest.items from i w.in-Some.place _ c.loop-literal.marks c.loop-literal-test.true
            (omega (arith, w.in-Some.ensures.within, c.loop-literal.invariant.size, c.requires.room)) refl w.in-Some.ensures.place
            (c.loop-literal.invariant.value v);
        below = c.loop-literal.invariant.below;
      }
      | in-None+in_ok-push-in-None w ↦ rw (w.marks-is, w.rest-is) record {
        size = c.loop-literal.invariant.size;
        value = λ v. part_left v xs c.loop-literal.rest.items w.push.new.self.items from i _ c.loop-literal.marks c.loop-literal-test.true refl
            w.in_ok-push-in-None.ensures.items (c.loop-literal.invariant.value v);
        below = λ n all. subst (λ (ys : List ℕ). All (λ j. j < n) ys) (sym w.in_ok-push-in-None.ensures.items)
            (All-push (λ j. j < n) c.loop-literal.rest.items _ (c.loop-literal.invariant.below n all) (all i 0 c.loop-literal-test.true));
      }
    ]
