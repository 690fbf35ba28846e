-- The relations of negated literals, in lists.
use Rattle.std.proofs.Common.{ℕ, ◌≡◌, ◌<◌, ◌+◌, List, [], ◌∷◌, ◌++◌, drop, length, get_or, refl, sym, ap, ◌∙◌, append_assoc}
use Rattle.statement.specs.Tree.{Tree, name, list, trees_of}
use Rattle.statement.specs.Clause.{Literal, positive, negative, Relation, relation_of}
use Rattle.kif.specs.View.{tree_of, trees_in}
use Rattle.kif.specs.declared.expr.Expr.{Expr}
use Rattle.kif.proofs.Facts.{parts_from}
use Rattle.rules_profile.specs.Standing.{literals_in, literals_of_all}
use Rattle.rules_profile.specs.Parts.{HasNoWord}
use Rattle.unroll_strata.specs.Numbering.{negated_among}

negated_append : (xs ys : List Literal) → negated_among (xs ++ ys) ≡ negated_among xs ++ negated_among ys
negated_append [] ys = refl
negated_append (positive x ∷ xs) ys = negated_append xs ys
negated_append (negative x ∷ xs) ys = ap (λ (ps : List Relation). relation_of x ∷ ps) (negated_append xs ys)

-- one tree more
pub one_gathered : {A : Type 0} (es : List (Expr A)) (i : ℕ) (e : Expr A) (now next all : List Relation) → i < length es → e ≡ get_or es i e
    → now ++ negated_among (literals_of_all (trees_of (trees_in (drop i es)))) ≡ all
    → next ≡ now ++ negated_among (literals_in (tree_of e))
    → next ++ negated_among (literals_of_all (trees_of (trees_in (drop (i + 1) es)))) ≡ all
one_gathered es i e now next all within is so_far more =
    let here = negated_among (literals_in (tree_of e)) in
    let rest = negated_among (literals_of_all (trees_of (trees_in (drop (i + 1) es)))) in
    let split : negated_among (literals_of_all (trees_of (trees_in (drop i es)))) ≡ here ++ rest =
    ap (λ (ts : List Tree). negated_among (literals_of_all (trees_of ts))) (parts_from es i e within is)
    ∙ negated_append (literals_in (tree_of e)) (literals_of_all (trees_of (trees_in (drop (i + 1) es)))) in
    ap (λ (l : List Relation). l ++ rest) more ∙ append_assoc now here rest ∙ ap (λ (l : List Relation). now ++ l) (sym split) ∙ so_far

pub none_there : (ts : List Tree) → HasNoWord ts → literals_in (list (trees_of ts)) ≡ []
none_there [] h = refl
none_there (name w ∷ ts) h = absurd (h w ts refl)
none_there (list us ∷ ts) h = refl
