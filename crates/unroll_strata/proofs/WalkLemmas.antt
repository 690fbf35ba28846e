-- Walks over items and relations: what is made so far, and what is left.
use Rattle.std.proofs.Common.{ℕ, zero, suc, Bool, true, false, cond, ◌≡◌, ◌<◌, ◌+◌, List, [], ◌∷◌, ◌++◌, map, drop, length, get_or, refl, sym, ap, ◌∙◌, append_assoc, arith}
use Rattle.std.proofs.lemmas.List.{map-append}
use Rattle.statement.specs.Tree.{Tree, trees_of}
use Rattle.statement.specs.Clause.{Atom, Relation, relation_of}
use Rattle.statement.specs.Clause.{count_trees}
use Rattle.statement.specs.Dependence.{is_distinct}
use Rattle.util_digraph.specs.declared.graph.Arrow.{Arrow}
use Rattle.rules.specs.declared.item_links.Links.{Links}
use Rattle.kif.specs.View.{tree_of, trees_in}
use Rattle.kif.specs.declared.expr.Expr.{Expr}
use Rattle.kif.proofs.Facts.{parts_from}
use Rattle.unroll_strata.specs.Numbering.{number_in, numbers_in, item_arrows, items_arrows, link_in}

pub more_arrows : {A : Type 0} (known : List Relation) (es : List (Expr A)) (i : ℕ) (e : Expr A) (before now all : List Arrow) → i < length es
    → e ≡ get_or es i e → before ++ items_arrows known (trees_in (drop i es)) ≡ all → now ≡ before ++ item_arrows known (tree_of e)
    → now ++ items_arrows known (trees_in (drop (i + 1) es)) ≡ all
more_arrows known es i e before now all within is so_far more =
    let rest = items_arrows known (trees_in (drop (i + 1) es)) in
    ap (λ (l : List Arrow). l ++ rest) more ∙ append_assoc before (item_arrows known (tree_of e)) rest
    ∙ ap (λ (ts : List Tree). before ++ items_arrows known ts) (sym (parts_from es i e within is)) ∙ so_far

pub more_links : {A : Type 0} (f : Tree → ℕ × List ℕ) (es : List (Expr A)) (i : ℕ) (e : Expr A) (before now : List Links) (link : Links)
    (all : List (ℕ × List ℕ)) → i < length es
    → e ≡ get_or es i e → map link_in before ++ map f (trees_in (drop i es)) ≡ all → now ≡ before ++ link ∷ [] → link_in link ≡ f (tree_of e)
    → map link_in now ++ map f (trees_in (drop (i + 1) es)) ≡ all
more_links f es i e before now link all within is so_far more same =
    let rest = map f (trees_in (drop (i + 1) es)) in
    ap (λ (ls : List Links). map link_in ls ++ rest) more
    ∙ ap (λ (l : List (ℕ × List ℕ)). l ++ rest) (map-append link_in before (link ∷ []))
    ∙ append_assoc (map link_in before) (link_in link ∷ []) rest
    ∙ ap (λ (p : ℕ × List ℕ). map link_in before ++ p ∷ rest) same
    ∙ ap (λ (ts : List Tree). map link_in before ++ map f ts) (sym (parts_from es i e within is)) ∙ so_far

dropped_first : {R : Type 0} (rs : List R) (i : ℕ) (r d : R) → i < length rs → r ≡ get_or rs i d → drop i rs ≡ r ∷ drop (i + 1) rs
dropped_first [] i r d h is = absurd (let bad : ⊥ = omega (arith, h) in bad)
dropped_first {R} (s ∷ rs) zero r d h is = ap (λ (x : R). x ∷ rs) (sym is)
dropped_first (s ∷ rs) (suc i) r d h is =
    let far : suc (i + 1) ≡ suc i + 1 = omega arith in
    dropped_first rs i r d (omega (arith, h)) is ∙ ap (λ k. r ∷ drop k (s ∷ rs)) far

first_number : (known : List Relation) (p : Relation) (ps : List Relation) → numbers_in known (p ∷ ps) ≡ numbers_in known (p ∷ []) ++ numbers_in known ps
first_number known p ps = go (is_distinct p)
  where
    go : (b : Bool) → cond b (numbers_in known ps) (number_in known p ∷ numbers_in known ps) ≡ cond b [] (number_in known p ∷ []) ++ numbers_in known ps
    go true = refl
    go false = refl

pub more_numbers : {R : Type 0} (view : R → Relation) (known : List Relation) (rs : List R) (i : ℕ) (r d : R) (before now all : List ℕ) → i < length rs
    → r ≡ get_or rs i d → before ++ numbers_in known (map view (drop i rs)) ≡ all → now ≡ before ++ numbers_in known (view r ∷ [])
    → now ++ numbers_in known (map view (drop (i + 1) rs)) ≡ all
more_numbers {R} view known rs i r d before now all within is so_far more =
    let rest = numbers_in known (map view (drop (i + 1) rs)) in
    ap (λ (l : List ℕ). l ++ rest) more ∙ append_assoc before (numbers_in known (view r ∷ [])) rest
    ∙ ap (λ (l : List ℕ). before ++ l) (sym (first_number known (view r) (map view (drop (i + 1) rs))))
    ∙ ap (λ (xs : List R). before ++ numbers_in known (map view xs)) (sym (dropped_first rs i r d within is)) ∙ so_far

counted : {A : Type 0} (es : List (Expr A)) → count_trees (trees_of (trees_in es)) ≡ length es
counted [] = refl
counted (e ∷ es) = ap suc (counted es)

pub relation_is : {A : Type 0} (x : Atom) (w : List ℕ) (es : List (Expr A)) → x ≡ record { word = w; terms = trees_of (trees_in es) }
    → let p : Relation = record { word = w; arity = length es } in p ≡ relation_of x
relation_is x w es e = ap (λ (k : ℕ). let p : Relation = record { word = w; arity = k } in p) (sym (counted es)) ∙ ap relation_of (sym e)
