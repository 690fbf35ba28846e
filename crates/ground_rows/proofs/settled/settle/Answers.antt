use Rattle.std.proofs.Common.{◌-◌, List, drop, get_or, sym, subst, arith}
use Rattle.rules_clauses.specs.declared.numbered.Part.{Part}
use Rattle.rules_clauses.specs.declared.numbered.Part.TheVariants as parts
use Rattle.ground_rows.specs.declared.settlings.Settled.{Settled}
use Rattle.ground_rows.specs.Settled.{Settles, IsPut, AreAbsent}
use Rattle.ground_rows.proofs.Facts.{absent_from, part_before}
use Rattle.ground_rows.proofs.settled.settle.Goals as goal

pub parts-preserved : goal.parts-preserved
parts-preserved c =
    let l = c.parts.invariant in
    let some = c.parts-test.true in
    let put = subst (λ (s : Settled). IsPut c.args.terms.now (get_or c.args.parts.now (c.parts.left - 1) (parts.Variable 0)) c.parts.slots c.settle_part.new.slots c.parts.at s) c.in-From.is c.in_ok-next.ensures in
    let front = put.0 in
    let before = l.0 in
    let within = l.2 in (
      omega (arith, front, before, some),
      put.1,
      omega (arith, within),
      λ words. subst (λ (qs : List Part). Settles words c.args.terms.now qs (drop c.in-From.next c.settle_part.new.slots))
          (sym (part_before c.args.parts.now c.parts.left (parts.Variable 0) some within)) (put.2 words (drop c.parts.left c.args.parts.now) (l.3 words)),
    )

pub returns-in-Absent : goal.returns-in-Absent
returns-in-Absent c = λ words.
    let l = c.parts.invariant in
    let some = c.parts-test.true in
    let put = subst (λ (s : Settled). IsPut c.args.terms.now (get_or c.args.parts.now (c.parts.left - 1) (parts.Variable 0)) c.parts.slots c.settle_part.new.slots c.parts.at s) c.in-Absent.is c.in_ok-next.ensures in
    absent_from words c.args.terms.now (c.parts.left - 1) c.args.parts.now
    (subst (λ (qs : List Part). AreAbsent words c.args.terms.now qs) (sym (part_before c.args.parts.now c.parts.left (parts.Variable 0) some l.2))
    (put words (drop c.parts.left c.args.parts.now) (l.3 words)))
