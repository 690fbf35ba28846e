-- Literals in the form of the profile, by the word in front of them.
use Rattle.std.proofs.Common.{ℕ, suc, Bool, false, cond, ◌≡◌, ◌<◌, ◌+◌, List, [], ◌∷◌, ◌++◌, map, drop, length, get_or, refl, sym, ap, ◌∙◌, append_assoc, arith}
use Rattle.std.proofs.lemmas.List.{map-append}
use Rattle.kif.specs.View.{tree_of, trees_in}
use Rattle.kif.specs.declared.expr.Expr.{Expr}
use Rattle.kif.proofs.Facts.{parts_from}
use Rattle.rules_profile.proofs.Facts.{tree_size, trees_size}
use Rattle.std.specs.Prelude.{not, ◌==◌}
use Rattle.statement.specs.Tree.{Tree, name, list, Trees, no_trees, tree, trees_of}
use Rattle.statement.specs.Words.{w_if, w_not, w_or, w_and}
use Rattle.statement.specs.Items.{is_some, head_tree, body_trees}
use Rattle.rules_profile.specs.Parts.{HasNoWord}
use Rattle.rules_profile.specs.Connectives.{IsNoConnective}
use Rattle.unroll_strata.specs.Plain.{turned, plain_literal, plain_literals, behind, role_literal, plain_item, HasNotOne}

pub literals_map : (wrong : Bool) (ts : List Tree) → plain_literals wrong (trees_of ts) ≡ trees_of (map (plain_literal wrong) ts)
literals_map wrong [] = refl
literals_map wrong (t ∷ ts) = ap (λ (us : Trees). tree (plain_literal wrong t) us) (literals_map wrong ts)

pub behind_append : (xs ys : List Tree) → trees_of (xs ++ ys) ≡ behind (trees_of xs) (trees_of ys)
behind_append [] ys = refl
behind_append (x ∷ xs) ys = ap (λ (us : Trees). tree x us) (behind_append xs ys)

pub no_word : (wrong : Bool) (ts : List Tree) → HasNoWord ts → plain_literal wrong (list (trees_of ts)) ≡ turned wrong (list (trees_of ts))
no_word wrong [] h = refl
no_word wrong (name w ∷ ts) h = absurd (h w ts refl)
no_word wrong (list us ∷ ts) h = refl

pub or_word : (wrong : Bool) (w : List ℕ) (rest : Trees) → w ≡ w_or
    → plain_literal wrong (list (tree (name w) rest)) ≡ list (tree (name (cond wrong w_and w_or)) (plain_literals wrong rest))
or_word wrong w rest h = rw h refl

pub and_word : (wrong : Bool) (w : List ℕ) (rest : Trees) → w ≡ w_and
    → plain_literal wrong (list (tree (name w) rest)) ≡ list (tree (name (cond wrong w_or w_and)) (plain_literals wrong rest))
and_word wrong w rest h = rw h refl

pub not_word : (wrong : Bool) (w : List ℕ) (t : Tree) → w ≡ w_not
    → plain_literal wrong (list (tree (name w) (tree t no_trees))) ≡ plain_literal (not wrong) t
not_word wrong w t h = rw h refl

pub no_negation : (wrong : Bool) (w : List ℕ) (rest : List Tree) → w ≡ w_not → HasNotOne rest
    → plain_literal wrong (list (tree (name w) (trees_of rest))) ≡ turned wrong (list (tree (name w) (trees_of rest)))
no_negation wrong w [] h other = rw h refl
no_negation wrong w (t ∷ []) h other = absurd (other t refl)
no_negation wrong w (t ∷ u ∷ us) h other = rw h refl

pub plain_word : (wrong : Bool) (w : List ℕ) (rest : Trees) → IsNoConnective w
    → plain_literal wrong (list (tree (name w) rest)) ≡ turned wrong (list (tree (name w) rest))
plain_word wrong w rest h = rw (h.no_or, h.no_and, h.no_not) refl

-- Sizes.

pub far_smaller : (t : Tree) (w : List ℕ) (rest : List Tree) → t ≡ list (tree (name w) (trees_of rest)) → suc (trees_size rest) < tree_size t
far_smaller t w rest e = let k = ap tree_size e in omega (arith, k)

pub only_smaller : (t : Tree) (w : List ℕ) (rest : List Tree) (u : Tree) → t ≡ list (tree (name w) (trees_of rest)) → rest ≡ u ∷ []
    → tree_size u < tree_size t
only_smaller t w rest u e f = let k = ap tree_size e in let m = ap trees_size f in omega (arith, k, m)

-- Lists of trees.

pub one_more : {A : Type 0} (es : List (Expr A)) (e : Expr A) (fs : List (Expr A)) → fs ≡ es ++ e ∷ [] → trees_in fs ≡ trees_in es ++ tree_of e ∷ []
one_more {A} es e fs more = ap trees_in more ∙ map-append (tree_of {A = A}) es (e ∷ [])

-- one tree more, and what is left
pub one_turned : {A B : Type 0} (f : Tree → Tree) (es : List (Expr A)) (i : ℕ) (e : Expr A) (before now : List (Expr B)) (made : Expr B) (all : List Tree)
    → i < length es → e ≡ get_or es i e → trees_in before ++ map f (trees_in (drop i es)) ≡ all → now ≡ before ++ made ∷ [] → tree_of made ≡ f (tree_of e)
    → trees_in now ++ map f (trees_in (drop (i + 1) es)) ≡ all
one_turned f es i e before now made all within is so_far more same =
    let rest = map f (trees_in (drop (i + 1) es)) in
    ap (λ (ts : List Tree). ts ++ rest) (one_more before made now more) ∙ append_assoc (trees_in before) (tree_of made ∷ []) rest
    ∙ ap (λ (t : Tree). trees_in before ++ t ∷ rest) same
    ∙ ap (λ (ts : List Tree). trees_in before ++ map f ts) (sym (parts_from es i e within is)) ∙ so_far

pub behind_none : (ts : Trees) → ts ≡ behind ts no_trees
behind_none no_trees = refl
behind_none (tree t ts) = ap (λ (us : Trees). tree t us) (behind_none ts)

-- Items.

pub plain_rule : (t h : Tree) (b : List Tree) → head_tree t ≡ h → body_trees t ≡ trees_of b → (b ≡ [] → ⊥)
    → list (tree (name w_if) (tree h (behind (plain_literals false (trees_of b)) (role_literal t)))) ≡ plain_item t
plain_rule t h [] e f n = absurd (n refl)
plain_rule t h (u ∷ us) e f n =
    (λ i. list (tree (name w_if) (tree (sym e i) (behind (plain_literals false (sym f i)) (role_literal t)))))
    ∙ sym (ap (λ (x : Bool). cond x (list (tree (name w_if) (tree (head_tree t) (behind (plain_literals false (body_trees t)) (role_literal t))))) t) (ap is_some f))

pub some_trees : {A : Type 0} (es : List (Expr A)) → (length es == 0) ≡ false → trees_in es ≡ [] → ⊥
some_trees [] h e = let bad : ⊥ = cc in bad
some_trees (x ∷ es) h e = let k = ap length e in let bad : ⊥ = omega (arith, k) in bad
