-- What the form of a tree says of its parts.
use Rattle.std.proofs.Common.{ℕ, suc, zero, ◌<◌, Bool, true, false, not, ◌&&◌, ◌≡◌, List, [], ◌∷◌, length, refl, sym, ap, ◌∙◌, arith, get_or}
use Rattle.statement.specs.Tree.{Tree, name, list, Trees, no_trees, tree, trees_of}
use Rattle.kif.specs.View.{tree_of, trees_in}
use Rattle.kif.specs.declared.expr.Expr.{Expr}
use Rattle.kif.proofs.Facts.{both}
use Rattle.statement.specs.Clause.{is_variable}
use Rattle.statement.specs.Items.{is_name, is_constant, is_connective, is_term, are_terms, is_atom, is_one_atom}
use Rattle.rules_profile.proofs.Tests.{not_true}

-- what holds of each tree of a list holds of one
pub one_of_all : {A : Type 0} (whole : Trees → Bool) (one : Tree → Bool) → ((t : Tree) (ts : Trees) → whole (tree t ts) ≡ (one t && whole ts))
    → (es : List (Expr A)) (i : ℕ) (e : Expr A) → i < length es → e ≡ get_or es i e → whole (trees_of (trees_in es)) ≡ true → one (tree_of e) ≡ true
one_of_all whole one step [] i e h same w = absurd (let bad : ⊥ = omega (arith, h) in bad)
one_of_all whole one step (x ∷ es) zero e h same w =
    ap (λ y. one (tree_of y)) same ∙ (both (one (tree_of x)) (whole (trees_of (trees_in es))) (sym (step (tree_of x) (trees_of (trees_in es))) ∙ w)).0
one_of_all whole one step (x ∷ es) (suc i) e h same w =
    one_of_all whole one step es i e (omega (arith, h)) same
    (both (one (tree_of x)) (whole (trees_of (trees_in es))) (sym (step (tree_of x) (trees_of (trees_in es))) ∙ w)).1

pub constant_word : (w : List ℕ) → is_constant w ≡ true → is_variable w ≡ false
constant_word w h = not_true (is_variable w) (both (is_name w) (not (is_variable w)) h).1

pub compound_word : (w : List ℕ) (rest : Trees) → is_term (list (tree (name w) rest)) ≡ true → is_variable w ≡ false
compound_word w no_trees h = absurd cc
compound_word w (tree t rest) h = constant_word w (both (is_constant w) (are_terms (tree (name w) (tree t rest))) h).0

pub compound_terms : (w : List ℕ) (rest : Trees) → is_term (list (tree (name w) rest)) ≡ true → are_terms rest ≡ true
compound_terms w no_trees h = refl
compound_terms w (tree t rest) h = (both (is_name w) (are_terms (tree t rest)) (both (is_constant w) (are_terms (tree (name w) (tree t rest))) h).1).1

pub atom_terms : (w : List ℕ) (rest : Trees) → is_atom (list (tree (name w) rest)) ≡ true → are_terms rest ≡ true
atom_terms w rest h = (both (is_constant w && not (is_connective w)) (are_terms rest) h).1

pub one_atom_there : {A : Type 0} (es : List (Expr A)) → is_one_atom (trees_of (trees_in es)) ≡ true → 0 < length es
one_atom_there [] h = absurd cc
one_atom_there (e ∷ es) h = omega arith

pub one_atom_alone : {A : Type 0} (es : List (Expr A)) (e : Expr A) → is_one_atom (trees_of (trees_in es)) ≡ true → e ≡ get_or es 0 e
    → trees_in es ≡ tree_of e ∷ []
one_atom_alone [] e h same = absurd cc
one_atom_alone (d ∷ []) e h same = ap (λ x. tree_of x ∷ []) (sym same)
one_atom_alone (d ∷ (c ∷ es)) e h same = absurd cc

pub one_atom_is : {A : Type 0} (es : List (Expr A)) (e : Expr A) → is_one_atom (trees_of (trees_in es)) ≡ true → trees_in es ≡ tree_of e ∷ []
    → is_atom (tree_of e) ≡ true
one_atom_is es e h alone = sym (ap (λ (ts : List Tree). is_one_atom (trees_of ts)) alone) ∙ h
