-- What the first line of a text says.
use Rattle.std.proofs.Common.{ℕ, Bool, true, false, cond, ◌≡◌, List, ◌++◌, refl, sym, ap, ◌∙◌, arith}
use Rattle.std.specs.Prelude.{slice_index_or, Result, Ok, Err, IfOk}
use Rattle.std.specs.Bool.{OnTrue}
use Rattle.statement.specs.Tree.{Tree}
use Rattle.statement.specs.Profile.{HasNoFault}
use Rattle.unroll_strata.specs.Lawful.{IsRecursive}
use Rattle.unroll.specs.Written.{shown_line, tested_line, IsShown}

pub on_true_map : (b : Bool) (P Q : Type 0) → (P → Q) → OnTrue b P → OnTrue b Q
on_true_map true P Q f h = f h
on_true_map false P Q f h = tt

pub true_on : (b : Bool) (P : Type 0) → OnTrue b P → b ≡ true → P
true_on true P h e = h
true_on false P h e = absurd (let bad : ⊥ = cc in bad)

apart : ◌≡◌ {A = ℕ} 84 83 → ⊥
apart e = omega (arith, e)

-- the lines differ
no_claim : (text rest : List ℕ) → tested_line ++ text ≡ shown_line ++ rest → ⊥
no_claim text rest e = apart (ap (λ (l : List ℕ). slice_index_or l 2 0) e)

pub claimed : (b : Bool) (out text line : List ℕ) → line ≡ cond b shown_line tested_line → out ≡ line ++ text → cond b (IsShown out) (IsShown out → ⊥)
claimed true out text line is e = (text, e ∙ ap (λ (l : List ℕ). l ++ text) is)
claimed false out text line is e = λ s. no_claim text s.0 (ap (λ (l : List ℕ). l ++ text) (sym is) ∙ sym e ∙ s.1)

-- what says that it is shown is shown
pub shown_if : (b : Bool) (A B : Type 0) → cond b A (A → ⊥) → (b ≡ true → B) → A → B
shown_if true A B says f a = f refl
shown_if false A B says f a = absurd (says a)

pub says_if : (b : Bool) (A : Type 0) → cond b A (A → ⊥) → b ≡ true → A
says_if true A says e = says
says_if false A says e = absurd (let bad : ⊥ = cc in bad)

-- items without a fault do not rest on themselves
pub no_rest : (items : List Tree) (rests : Bool) → OnTrue rests (IsRecursive items) → HasNoFault items → rests ≡ false
no_rest items true recursive none = let same = sym none ∙ recursive.1 in let bad : ⊥ = cc in absurd bad
no_rest items false recursive none = refl

pub if_both : {A E : Type 0} (r : Result A E) (P Q R : A → Type 0) → IfOk r P → IfOk r Q → ((x : A) → P x → Q x → R x) → IfOk r R
if_both (Ok x) P Q R p q f = f x p q
if_both (Err e) P Q R p q f = tt
