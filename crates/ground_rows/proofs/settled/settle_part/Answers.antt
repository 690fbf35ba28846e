use Rattle.std.proofs.Common.{◌-◌, List, ◌∷◌, drop, sym, subst, arith}
use Rattle.std.proofs.lemmas.List.{length-set}
use Rattle.rules_clauses.specs.declared.numbered.Part.{Part}
use Rattle.ground_rows.specs.Settled.{Settles}
use Rattle.ground_rows.proofs.Facts.{settles_simple, put_before, simple_part}
use Rattle.ground_rows.proofs.settled.settle_part.Goals as goal

pub returns : goal.returns
returns c =
    let some = c.requires.some in
    let within = c.requires.within in
    let size = length-set c.args.slots.now (c.args.at - 1) c.args.part in (
      omega (arith, some),
      omega (arith, within, size),
      λ words ps settles.
          subst (λ (qs : List Part). Settles words c.args.terms.now (c.args.part ∷ ps) qs)
          (sym (put_before c.args.at (c.args.at - 1) c.args.slots.now c.args.part (omega (arith, some)) within))
          (settles_simple words c.args.terms.now c.args.part ps (drop c.args.at c.args.slots.now)
          (simple_part c.args.part (λ s n. c.in_default.not-List s n)) settles),
    )
