-- What is told of states, and bounds of them, that hold at every greater depth too.
use Rattle.std.proofs.Common.{true, ◌≡◌, ℕ, ◌≤◌, arith, sym, ap, ◌∙◌}
use Rattle.std.proofs.lemmas.Int.{ints, clamps}
use Rattle.std.specs.Prelude.{ℤ, pos, ◌≤ℤ◌, Option, Some, None, IfSome, unwrap_or}
use Rattle.std.specs.Int.{int_min, int_max}
use Rattle.maximin.specs.declared.answer.SearchAnswer.{SearchAnswer}

-- what is told of a state, or else the bound, keeps the upper bound above what all states are worth
pub told_low : (told : Option SearchAnswer) (v all : ℕ) (b upper : ℤ) (unknown found : SearchAnswer) → IfSome told (λ x. x.worth ≡ pos v)
    → all ≤ v → unknown.worth ≡ b → found ≡ unwrap_or told unknown → int_min (pos all) b ≤ℤ upper
    → int_min (pos all) b ≤ℤ int_min upper found.worth
told_low None v all b upper unknown found h part bound is low =
    let same = ap (λ (x : SearchAnswer). x.worth) is ∙ bound in
    omega (arith, ints, clamps)
told_low (Some x) v all b upper unknown found h part bound is low =
    let same = ap (λ (y : SearchAnswer). y.worth) is ∙ h in
    omega (arith, ints, clamps)

-- and if that lasts at each depth
pub told_lasts : (told : Option SearchAnswer) (v : ℕ → ℕ) (b upper : ℤ) (unknown found : SearchAnswer)
    → IfSome told (λ x. x.lasts ≡ true → (d : ℕ) → x.worth ≡ pos (v d)) → unknown.worth ≡ b → upper ≤ℤ b → found ≡ unwrap_or told unknown
    → found.lasts ≡ true → (d : ℕ) → int_min (pos (v d)) upper ≤ℤ found.worth
told_lasts None v b upper unknown found h bound below is e d =
    let same = ap (λ (x : SearchAnswer). x.worth) is ∙ bound in
    omega (arith, ints, clamps)
told_lasts (Some x) v b upper unknown found h bound below is e d =
    let same = ap (λ (y : SearchAnswer). y.worth) is ∙ h (sym (ap (λ (y : SearchAnswer). y.lasts) is) ∙ e) d in
    omega (arith, ints, clamps)

-- what is told of a state, or else the bound, keeps the lower bound below what all states are worth
pub told_high : (told : Option SearchAnswer) (v all : ℕ) (a lower : ℤ) (unknown found : SearchAnswer) → IfSome told (λ x. x.worth ≡ pos v)
    → v ≤ all → unknown.worth ≡ a → found ≡ unwrap_or told unknown → lower ≤ℤ int_max (pos all) a
    → int_max lower found.worth ≤ℤ int_max (pos all) a
told_high None v all a lower unknown found h part bound is high =
    let same = ap (λ (x : SearchAnswer). x.worth) is ∙ bound in
    omega (arith, ints, clamps)
told_high (Some x) v all a lower unknown found h part bound is high =
    let same = ap (λ (y : SearchAnswer). y.worth) is ∙ h in
    omega (arith, ints, clamps)

-- a bound of a worth
pub bound_of : (v hi : ℕ) (upper r : ℤ) → v ≤ hi → r ≡ pos hi → int_min (pos v) upper ≤ℤ r
bound_of v hi upper r within is = omega (arith, ints, clamps)
