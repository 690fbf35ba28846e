-- Placed parts can be built where their terms are terms.
use Rattle.std.proofs.Common.{
  ℕ,
  suc,
  zero,
  ◌-◌,
  ◌<◌,
  ◌≤◌,
  Bool,
  true,
  ◌&&◌,
  ◌≡◌,
  List,
  [],
  ◌∷◌,
  ◌++◌,
  length,
  map,
  take,
  drop,
  refl,
  sym,
  ◌∙◌,
  ap,
  subst,
  arith,
  Option,
}
use Rattle.std.specs.Prelude.{unwrap_or}
use Rattle.std.proofs.lemmas.List.{take-append-drop}
use Rattle.statement.specs.Tree.{Tree, name, list, tree, trees_of}
use Rattle.kif.proofs.Facts.{both}
use Rattle.rules_clauses.specs.declared.numbered.Part.{Part}
use Rattle.rules_clauses.specs.declared.numbered.Part.TheVariants as parts
use Rattle.rules_clauses.specs.Adding.{AreSorted}
use Rattle.statement.specs.Items.{is_term, are_terms, begins_compound}
use Rattle.rules_clauses.specs.Store.{Data, terms_before, count_terms, AreFull}
use Rattle.ground_terms.specs.Building.{PartsPlaced}
use Rattle.rules_clauses.specs.Numbers.{word_at}
use Rattle.ground_matching.specs.Placed.{placed_part, HavePlaces}
use Rattle.ground_matching.specs.Places.{place_of, symbol_of}
use Rattle.ground_matching.proofs.PlacedStand.{IsFound, is_found}

-- Each list has terms.

abbrev pub ListsHaveTerms : List Part → Type 0
ListsHaveTerms [] = Unit {0}
ListsHaveTerms (parts.Variable v ∷ ps) = ListsHaveTerms ps
ListsHaveTerms (parts.Constant s ∷ ps) = ListsHaveTerms ps
ListsHaveTerms (parts.List s n ∷ ps) = (0 < n) × ListsHaveTerms ps

some_of : (w : List ℕ) (n : ℕ) (behind : List Tree) → begins_compound (tree (name w) (trees_of (take n behind))) ≡ true → 0 < n
some_of w zero behind h = absurd cc
some_of w (suc n) behind h = omega arith

terms_append : (xs ys : List Tree) → are_terms (trees_of xs) ≡ true → are_terms (trees_of ys) ≡ true → are_terms (trees_of (xs ++ ys)) ≡ true
terms_append [] ys h k = k
terms_append (x ∷ xs) ys h k =
    let b = both (is_term x) (are_terms (trees_of xs)) h in
    ap (λ (t : Bool). t && are_terms (trees_of (xs ++ ys))) b.0 ∙ terms_append xs ys b.1 k

behind_terms : (n : ℕ) (behind : List Tree) → are_terms (trees_of (take n behind)) ≡ true → are_terms (trees_of (drop n behind)) ≡ true
    → are_terms (trees_of behind) ≡ true
behind_terms n behind h k = subst (λ (ts : List Tree). are_terms (trees_of ts) ≡ true) (take-append-drop n behind)
    (terms_append (take n behind) (drop n behind) h k)

pub lists_have_terms : (d : Data) (from : ℕ) (ps : List Part) → are_terms (trees_of (terms_before d from ps [])) ≡ true → ListsHaveTerms ps
lists_have_terms d from [] h = tt
lists_have_terms d from (parts.Variable v ∷ ps) h = lists_have_terms d from ps (both _ (are_terms (trees_of (terms_before d from ps []))) h).1
lists_have_terms d from (parts.Constant s ∷ ps) h = lists_have_terms d from ps (both _ (are_terms (trees_of (terms_before d from ps []))) h).1
lists_have_terms d from (parts.List s n ∷ ps) h =
    let behind = terms_before d from ps [] in
    let w = word_at d.words s in
    let own = trees_of (take n behind) in
    let b = both (is_term (list (tree (name w) own))) (are_terms (trees_of (drop n behind))) h in
    let c = both (begins_compound (tree (name w) own)) (are_terms (tree (name w) own)) b.0 in
    let e = both (is_term (name w)) (are_terms own) c.1 in
    (some_of w n behind c.0, lists_have_terms d from ps (behind_terms n behind e.1 b.1))

-- Each part can be put on the stack.

placed_at : (s : ℕ) (places : List (Option ℕ)) → IsFound s places → unwrap_or (place_of s places) 0 < length places
placed_at s places f = subst (λ (o : Option ℕ). unwrap_or o 0 < length places) (sym f.found) f.is.less

pub placed_can_be_built : (d : Data) (from : ℕ) (places : List (Option ℕ)) (ps : List Part) → AreSorted d from ps → HavePlaces d from places ps
    → ListsHaveTerms ps
    → PartsPlaced (length d.words) (length places) (map (placed_part d from places) ps)
placed_can_be_built d from places [] a h l = tt
placed_can_be_built d from places (parts.Variable v ∷ ps) a h l =
    (placed_at (symbol_of d from v) places (is_found (symbol_of d from v) places h.0), placed_can_be_built d from places ps a.1 h.1 l)
placed_can_be_built d from places (parts.Constant s ∷ ps) a h l = (a.0.0, placed_can_be_built d from places ps a.1 h l)
placed_can_be_built d from places (parts.List s n ∷ ps) a h l = (a.0.0, l.0, placed_can_be_built d from places ps a.1 h l.1)

placed_count : (d : Data) (from : ℕ) (places : List (Option ℕ)) (ps : List Part) → count_terms (map (placed_part d from places) ps) ≡ count_terms ps
placed_count d from places [] = refl
placed_count d from places (parts.Variable v ∷ ps) = ap (λ (n : ℕ). suc n) (placed_count d from places ps)
placed_count d from places (parts.Constant s ∷ ps) = ap (λ (n : ℕ). suc n) (placed_count d from places ps)
placed_count d from places (parts.List s m ∷ ps) = ap (λ (n : ℕ). suc (n - m)) (placed_count d from places ps)

-- the parts with places are whole as the parts are
pub placed_are_full : (d : Data) (from : ℕ) (places : List (Option ℕ)) (ps : List Part) → AreFull ps → AreFull (map (placed_part d from places) ps)
placed_are_full d from places [] f = tt
placed_are_full d from places (parts.Variable v ∷ ps) f = placed_are_full d from places ps f
placed_are_full d from places (parts.Constant s ∷ ps) f = placed_are_full d from places ps f
placed_are_full d from places (parts.List s n ∷ ps) f =
    (subst (λ (m : ℕ). n ≤ m) (sym (placed_count d from places ps)) f.0, placed_are_full d from places ps f.1)
