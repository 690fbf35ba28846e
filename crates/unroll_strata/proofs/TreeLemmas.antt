-- Trees in memory, and lists of them that grow.
use Rattle.std.proofs.Common.{ℕ, suc, Bool, false, cond, ◌||◌, ◌≡◌, ◌<◌, ◌≤◌, ◌+◌, ◌-◌, List, [], ◌∷◌, ◌++◌, map, filter, length, refl, sym, ap, ◌∙◌, append_assoc, arith}
use Rattle.std.specs.Prelude.{◌==◌}
use Rattle.std.proofs.lemmas.List.{map-append}
use Rattle.statement.specs.Tree.{Tree, name, list, Trees, no_trees, tree, trees_of, name_eq}
use Rattle.statement.specs.Words.{w_if, w_base, w_next}
use Rattle.statement.specs.Clause as said
use Rattle.statement.specs.Clause.{Relation, relation_of, tree_at, count_trees}
use Rattle.statement.specs.Dependence.{is_among}
use Rattle.statement.specs.Items.{atom_in, item_head, head_tree, body_trees}
use Rattle.kif.specs.View.{tree_of, trees_in}
use Rattle.kif.specs.declared.expr.Expr.{Expr}
use Rattle.rules_profile.specs.Parts.{HasNoWord}
use Rattle.unroll_strata.specs.Steps.{pair, step_literal, step_literals, step_item, based_item}

-- Lists that grow.

pub one_more : {A : Type 0} (es : List (Expr A)) (e : Expr A) (fs : List (Expr A)) → fs ≡ es ++ e ∷ [] → trees_in fs ≡ trees_in es ++ tree_of e ∷ []
one_more {A} es e fs more = ap trees_in more ∙ map-append (tree_of {A = A}) es (e ∷ [])

-- Atoms.

pub count_parts : {A : Type 0} (es : List (Expr A)) → count_trees (trees_of (trees_in es)) ≡ length es
count_parts [] = refl
count_parts (e ∷ es) = ap suc (count_parts es)

-- an atom with terms
pub atom_list : {A : Type 0} (w : List ℕ) (es : List (Expr A)) → (length es == 0) ≡ false
    → list (tree (name w) (trees_of (trees_in es))) ≡ tree_at w (trees_of (trees_in es))
atom_list w [] h = absurd (let bad : ⊥ = cc in bad)
atom_list w (e ∷ es) h = refl

-- Literals.

pub literals_map : (own : List Relation) (ts : List Tree) → step_literals own (trees_of ts) ≡ trees_of (map (step_literal own) ts)
literals_map own [] = refl
literals_map own (t ∷ ts) = ap (λ (us : Trees). tree (step_literal own t) us) (literals_map own ts)

pub no_word : (own : List Relation) (ts : List Tree) → HasNoWord ts → step_literal own (list (trees_of ts)) ≡ list (trees_of ts)
no_word own [] h = refl
no_word own (name w ∷ ts) h = absurd (h w ts refl)
no_word own (list us ∷ ts) h = refl

-- Items.

-- a rule from its head and its body
pub made_step : (own : List Relation) (t h : Tree) (body : List Tree) → head_tree t ≡ h → body_trees t ≡ trees_of body
    → list (tree (name w_if) (tree (pair w_next (said.tree_of (atom_in h))) (trees_of (map (step_literal own) body)))) ≡ step_item own t
made_step own t h body e f =
    (λ i. list (tree (name w_if) (tree (pair w_next (said.tree_of (atom_in (sym e i)))) (sym (literals_map own body) i))))
    ∙ ap (λ (us : Trees). list (tree (name w_if) (tree (pair w_next (said.tree_of (item_head t))) (step_literals own us)))) (sym f)

pub made_based : (t h : Tree) (body : List Tree) → head_tree t ≡ h → body_trees t ≡ trees_of body
    → list (tree (name w_if) (tree (pair w_base (said.tree_of (atom_in h))) (trees_of body))) ≡ based_item t
made_based t h body e f =
    λ i. list (tree (name w_if) (tree (pair w_base (said.tree_of (atom_in (sym e i)))) (sym f i)))
