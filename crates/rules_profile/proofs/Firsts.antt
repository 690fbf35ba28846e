-- The walk to the first item that fails a test.
use Rattle.std.specs.Prelude.{All}
use Rattle.std.proofs.Common.{ℕ, suc, ◌+◌, ◌<◌, ◌≤◌, ◌≡◌, Bool, true, false, List, ◌∷◌, Some, None, length, drop, get_or, refl, sym, ap, ◌∙◌, subst}
use Rattle.std.proofs.Common.{arith}
use Rattle.std.proofs.lemmas.List.{length-map, get_or-map}
use Rattle.std.proofs.lemmas.List.Elements.{All-get_or}
use Rattle.statement.specs.Tree.{Tree}
use Rattle.kif.specs.View.{tree_of, trees_in}
use Rattle.kif.specs.declared.expr.Expr.{Expr}
use Rattle.kif.proofs.Facts.{parts_from, no_parts}
use Rattle.statement.specs.Profile.{ItemFault, first_failing}

-- the first fault of the items is that of those from the one at i on
abbrev pub IsBehind : {A : Type 0} → (ℕ → ItemFault) → (Tree → Bool) → List (Expr A) → ℕ → Type 0
IsBehind {A} fault fails es i =
    first_failing fault fails 1 (trees_in {A = A} es) ≡ first_failing fault fails (i + 1) (trees_in {A = A} (drop i es))

first_at : (fault : ℕ → ItemFault) (fails : Tree → Bool) (n : ℕ) (t : Tree) (ts : List Tree) → fails t ≡ true
    → first_failing fault fails n (t ∷ ts) ≡ Some (fault n)
first_at fault fails n t ts f = rw f refl

first_later : (fault : ℕ → ItemFault) (fails : Tree → Bool) (n m : ℕ) (t : Tree) (ts : List Tree) → m ≡ suc n → fails t ≡ false
    → first_failing fault fails n (t ∷ ts) ≡ first_failing fault fails m ts
first_later fault fails n m t ts e f = rw f (ap (λ (k : ℕ). first_failing fault fails k ts) (sym e))

pub found_here : {A : Type 0} (fault : ℕ → ItemFault) (fails : Tree → Bool) (es : List (Expr A)) (i : ℕ) (e : Expr A) → IsBehind fault fails es i
    → i < length es → e ≡ get_or es i e
    → fails (tree_of e) ≡ true → first_failing fault fails 1 (trees_in es) ≡ Some (fault (i + 1))
found_here fault fails es i e b h same f =
    b ∙ ap (first_failing fault fails (i + 1)) (parts_from es i e h same) ∙ first_at fault fails (i + 1) (tree_of e) _ f

pub found_later : {A : Type 0} (fault : ℕ → ItemFault) (fails : Tree → Bool) (es : List (Expr A)) (i : ℕ) (e : Expr A) → IsBehind fault fails es i
    → i < length es → e ≡ get_or es i e
    → fails (tree_of e) ≡ false → IsBehind fault fails es (i + 1)
found_later fault fails es i e b h same f =
    b ∙ ap (first_failing fault fails (i + 1)) (parts_from es i e h same) ∙ first_later fault fails (i + 1) (i + 1 + 1) (tree_of e) _ (omega arith) f

pub found_nowhere : {A : Type 0} (fault : ℕ → ItemFault) (fails : Tree → Bool) (es : List (Expr A)) (i : ℕ) → IsBehind fault fails es i → length es ≤ i
    → first_failing fault fails 1 (trees_in es) ≡ None
found_nowhere fault fails es i b h = b ∙ ap (first_failing fault fails (i + 1)) (no_parts es i h)

-- what holds of each item holds of the one at i
pub held_at : {A : Type 0} (P : Tree → Type 0) (es : List (Expr A)) (i : ℕ) (e : Expr A) → All P (trees_in es) → i < length es → e ≡ get_or es i e
    → P (tree_of e)
held_at {A} P es i e h lt same =
    let size = length-map es (tree_of {A = A}) in
    subst P (get_or-map (tree_of {A = A}) es i e (tree_of e) lt ∙ ap (tree_of {A = A}) (sym same))
    (All-get_or P (trees_in es) i (tree_of e) (omega arith) h)
