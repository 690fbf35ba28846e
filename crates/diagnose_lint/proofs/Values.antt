-- The second of two terms.
use Rattle.std.proofs.Common.{ℕ, Bool, false, ◌≡◌, List, [], ◌∷◌, length, get_or, refl, sym, ap, arith}
use Rattle.std.specs.Prelude.{not}
use Rattle.statement.specs.Tree.{Tree, trees_of}
use Rattle.kif.specs.View.{tree_of, trees_in}
use Rattle.kif.specs.declared.expr.Expr.{Expr}
use Rattle.diagnose_lint.specs.Names.{is_goal_value, has_bad_value}

pub not_two : {A : Type 0} (es : List (Expr A)) → (length es ≡ 2 → ⊥) → has_bad_value (trees_of (trees_in es)) ≡ false
not_two [] h = refl
not_two (e ∷ []) h = refl
not_two (e ∷ f ∷ []) h = absurd (h refl)
not_two (e ∷ f ∷ g ∷ es) h = refl

pub second_of_two : {A : Type 0} (es : List (Expr A)) (e : Expr A) → length es ≡ 2 → e ≡ get_or es 1 e
    → has_bad_value (trees_of (trees_in es)) ≡ not (is_goal_value (tree_of e))
second_of_two [] e size h = absurd (omega (arith, size))
second_of_two (d ∷ []) e size h = absurd (omega (arith, size))
second_of_two {A} (d ∷ f ∷ []) e size h = ap (λ (x : Expr A). not (is_goal_value (tree_of x))) (sym h)
second_of_two (d ∷ f ∷ g ∷ es) e size h = absurd (omega (arith, size))
