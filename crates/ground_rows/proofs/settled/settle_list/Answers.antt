use Rattle.std.proofs.Common.{ℕ, ◌≢◌, ◌<◌, ◌+◌, ◌-◌, List, ◌∷◌, drop, length, sym, ◌∙◌, subst, arith}
use Rattle.std.proofs.lemmas.List.{length-drop, length-set}
use Rattle.rules_clauses.specs.declared.numbered.Part.{Part}
use Rattle.rules_clauses.specs.declared.numbered.Part.TheVariants as parts
use Rattle.util_interner.specs.KeyLists.{key_at}
use Rattle.ground_rows.specs.Settled.{Settles}
use Rattle.ground_rows.proofs.Facts.{absent_list, settles_list, inner_key, put_over}
use Rattle.ground_rows.proofs.settled.settle_list.Goals as goal

pub returns-in_default : goal.returns-in_default
returns-in_default c = λ words ps settles.
    let first = c.args.terms.now in
    let few = c.if-many-slots.false in
    let long = length-drop c.args.at c.args.slots.now in
    absent_list words first c.args.symbol c.args.many ps (drop c.args.at c.args.slots.now) c.put_key.new.key.items
    (omega (arith, few, long))
    (inner_key c.args.symbol c.args.at c.args.many c.args.slots.now c.put_key.new.key.items (c.in_ok-put_key.ensures c.if-not-branch.false))
    (subst (λ (xs : List ℕ). (k : ℕ) → k < length first → key_at first k ≢ xs) c.as_slice.ensures.value c.in_default.ensures) settles

pub returns : goal.returns
returns c =
    let first = c.args.terms.now in
    let slots = c.args.slots.now in
    let some = c.requires.some in
    let within = c.requires.within in
    let few = c.if-many-slots.false in
    let long = length-drop c.args.at slots in
    let next = c.args.at + c.args.many - 1 in
    let number : Part = parts.Constant c.in-Some.number in
    let size = length-set slots next number in
    let found = c.in-Some.ensures in (
      omega (arith, some),
      omega (arith, within, few, size),
      λ words ps settles.
          subst (λ (qs : List Part). Settles words first (parts.List c.args.symbol c.args.many ∷ ps) qs)
          (sym (put_over c.args.at c.args.many next slots number (omega (arith, some)) (omega (arith, within, few))))
          (settles_list words first c.args.symbol c.args.many c.in-Some.number ps (drop c.args.at slots) c.put_key.new.key.items
          (omega (arith, few, long))
          (inner_key c.args.symbol c.args.at c.args.many slots c.put_key.new.key.items (c.in_ok-put_key.ensures c.if-not-branch.false))
          found.0 (found.1 ∙ c.as_slice.ensures.value) settles),
    )
