use Rattle.std.proofs.Common.{ℕ, Option, ◌≡◌, None, ◌⊎◌, subst, sym, refl, inl}
use Rattle.ground_rows.specs.Steps.{row_place}
use Rattle.ground_rows.proofs.steps.step_of.Goals as goal

pub returns-in-Some : goal.returns-in-Some
returns-in-Some c = (
  c.read.ensures.is c.args.mark c.args.placed.now c.if-mark.false,
  subst (λ (o : Option ℕ). (row_place c.read.result ≡ None) ⊎ (row_place c.read.result ≡ o)) (sym c.in-Some.is) c.read.ensures.place,
)

pub returns-then-mark-2 : goal.returns-then-mark-2
returns-then-mark-2 c = (c.compare.ensures.is c.args.mark c.if-mark.false c.if-mark-2.true refl, inl c.compare.ensures.unread)
