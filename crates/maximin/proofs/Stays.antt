-- The value in best play.
use Rattle.std.proofs.Common.{◌≡◌, ℕ, ◌-◌, zero, suc, Bool, true, false, cond, List, [], ◌∷◌, Some, None, refl, ◌∙◌, ap, arith}
use Rattle.std.proofs.lemmas.Bool.Decides.{nat_tests}
use Rattle.std.specs.Prelude.{find, ◌==◌, ◌||◌}
use Rattle.statement.specs.declared.at_bound.AtBound.{AtBound}
use Rattle.statement.specs.Rules.{Rules, State, Turn, is_stuck, turns_with}
use Rattle.statement.specs.Value.{value, worst, choice_of, reply_of}

found_passes : {X : Type 0} (p : X → Bool) (xs : List X) (x : X) → find p xs ≡ Some x → p x ≡ true
found_passes p [] x h = absurd cc
found_passes {X} p (y ∷ ys) x h = either (p y) refl h (found_passes p ys x)
  where
    either : (b : Bool) → p y ≡ b → cond b (Some y) (find p ys) ≡ Some x → (find p ys ≡ Some x → p x ≡ true) → p x ≡ true
    either true e h later = cc
    either false e h later = later h

same : (x y : ℕ) → (x == y) ≡ true → x ≡ y
same x y h = grind (arith, nat_tests)

pub choice_stays : (g : Rules) (role depth : ℕ) (at : AtBound) (s : State) (own : ℕ) → choice_of g role depth at s ≡ Some own
    → worst g role (depth - 1) at s own ≡ value g role depth at s
choice_stays g role zero at s own h = absurd cc
choice_stays g role (suc depth) at s own h = either (g.ended s || is_stuck g s) h
  where
    either : (b : Bool) → cond b None (find (λ m. worst g role depth at s m == value g role (suc depth) at s) (g.legal s role)) ≡ Some own
        → worst g role (suc depth - 1) at s own ≡ value g role (suc depth) at s
    either true h = absurd cc
    either false h =
        let less : suc depth - 1 ≡ depth = omega arith in
        ap (λ (d : ℕ). worst g role d at s own) less
        ∙ same _ _ (found_passes (λ m. worst g role depth at s m == value g role (suc depth) at s) (g.legal s role) own h)

pub reply_stays : (g : Rules) (role depth : ℕ) (at : AtBound) (s : State) (own : ℕ) (j : Turn) → reply_of g role depth at s own ≡ Some j
    → value g role depth at (g.after s j) ≡ worst g role depth at s own
reply_stays g role depth at s own j h =
    same _ _ (found_passes (λ (i : Turn). value g role depth at (g.after s i) == worst g role depth at s own) (turns_with g s role own) j h)
