-- The atoms that a row builds.
use Rattle.std.proofs.Common.{ℕ, suc, ◌≡◌, ◌<◌, ◌≤◌, List, [], ◌∷◌, length, map, refl, sym, ◌∙◌, ap, subst, arith, Option, Some, None}
use Rattle.std.specs.Prelude.{unwrap_or}
use Rattle.std.proofs.lemmas.List.{length-map}
use Rattle.statement.specs.Tree.{Tree, Trees, trees_of}
use Rattle.rules_clauses.specs.declared.numbered.Atom.{Atom}
use Rattle.rules_clauses.specs.declared.numbered.Part.{Part}
use Rattle.rules_clauses.specs.declared.numbered.Part.TheVariants as parts
use Rattle.rules_clauses.specs.Adding.{AreSorted}
use Rattle.statement.specs.Clause.{tree_at, tree_of}
use Rattle.rules_clauses.specs.Numbers.{BeginsWith, word_at}
use Rattle.rules_clauses.specs.Signatures.{signature_at}
use Rattle.rules_clauses.specs.Store.{Data, count_terms, AreFull, stated_atom}
use Rattle.ground_terms.specs.Arena.{Held}
use Rattle.ground_terms.specs.Building.{PartsPlaced, place_value, ground_terms}
use Rattle.ground_terms.specs.Atoms.{WordTerms}
use Rattle.ground_matching.specs.Plans.{AreFilled, CanBuild}
use Rattle.ground_rows.specs.Instances.{row_map, IsRow}
use Rattle.rules_clauses.specs.Marks.{NumbersBelow}
use Rattle.ground_terms.specs.Keys.{term_at, trees}
use Rattle.ground_matching.specs.Levels.{parts_in}
use Rattle.statement.specs.Matching.{Binding, map_of}
use Rattle.ground_matching.specs.Placed.{placed_part, HavePlaces}
use Rattle.ground_matching.specs.Places.{symbol_of, names_in_places}
use Rattle.ground_matching.specs.Standing.{bindings_behind}
use Rattle.statement.specs.Substitution.{Map, atom_under, substitute_all}
use Rattle.ground_terms.proofs.Facts.{term_front, trees_front, length_trees}
use Rattle.ground_matching.proofs.Facts.{is_found, placed_agree}

count_placed : (d : Data) (from : ℕ) (places : List (Option ℕ)) (ps : List Part) → count_terms (map (placed_part d from places) ps) ≡ count_terms ps
count_placed d from places [] = refl
count_placed d from places (parts.Variable v ∷ ps) = ap suc (count_placed d from places ps)
count_placed d from places (parts.Constant s ∷ ps) = ap suc (count_placed d from places ps)
count_placed d from places (parts.List s n ∷ ps) = let e = count_placed d from places ps in cc

pub full_placed : (d : Data) (from : ℕ) (places : List (Option ℕ)) (ps : List Part) → AreFull ps → AreFull (map (placed_part d from places) ps)
full_placed d from places [] f = f
full_placed d from places (parts.Variable v ∷ ps) f = full_placed d from places ps f
full_placed d from places (parts.Constant s ∷ ps) f = full_placed d from places ps f
full_placed d from places (parts.List s n ∷ ps) f =
    (let e = count_placed d from places ps in let h = f.0 in omega (arith, e, h), full_placed d from places ps f.1)

pub are_placed : (d : Data) (from many : ℕ) (places : List (Option ℕ)) (values : List ℕ) → length d.words ≡ many → length values ≡ length places
    → (ps : List Part) → AreSorted d from ps → HavePlaces d from places ps → AreFilled ps
    → PartsPlaced many (length values) (map (placed_part d from places) ps)
are_placed d from many places values m long [] s h f = tt
are_placed d from many places values m long (parts.Variable v ∷ ps) s h f =
    let g = is_found (symbol_of d from v) places h.0 in
    let less = g.is.less in (
      subst (λ (o : Option ℕ). unwrap_or o 0 < length values) (sym g.found) (omega (arith, less, long)),
      are_placed d from many places values m long ps s.1 h.1 f,
    )
are_placed d from many places values m long (parts.Constant c ∷ ps) s h f =
    (let less = s.0.0 in omega (arith, less, m), are_placed d from many places values m long ps s.1 h f)
are_placed d from many places values m long (parts.List c n ∷ ps) s h f =
    (let less = s.0.0 in omega (arith, less, m), f.0, are_placed d from many places values m long ps s.1 h f.1)

pub sizes_many : (words : List (List ℕ)) (held : Held) → WordTerms words held → length words ≡ length held.sizes
sizes_many words held t = sym (length-map words _) ∙ ap length t.sizes

-- what was bound stays what it is
bound_stays : (terms all : List Tree) → BeginsWith terms all → (names : List (Option (List ℕ))) (xs : List ℕ) → NumbersBelow (length terms) xs
    → (bs : List Binding)
    → bindings_behind all names xs bs ≡ bindings_behind terms names xs bs
bound_stays terms all f names [] b bs = refl
bound_stays terms all f [] (x ∷ xs) b bs = refl
bound_stays terms all f (None ∷ ns) (x ∷ xs) b bs = bound_stays terms all f ns xs b.1 bs
bound_stays terms all f (Some n ∷ ns) (x ∷ xs) b bs =
    ap (λ (t : Tree). bindings_behind all ns xs (record { variable = n; value = t } ∷ bs)) (term_front terms all f x b.0)
    ∙ bound_stays terms all f ns xs b.1 (record { variable = n; value = term_at terms x } ∷ bs)

pub below_trees : (words keys : List (List ℕ)) (xs : List ℕ) → NumbersBelow (length keys) xs → NumbersBelow (length (trees words keys)) xs
below_trees words keys xs b =
    let l = length_trees words [] keys in
    let e : length keys ≡ length (trees words keys) = omega (arith, l) in subst (λ (n : ℕ). NumbersBelow n xs) e b

pub map_stays : (d : Data) (old new : List (List ℕ)) (places : List (Option ℕ)) (values : List ℕ) → BeginsWith old new → NumbersBelow (length old) values
    → row_map d new places values ≡ row_map d old places values
map_stays d old new places values f b =
    ap (λ (bs : List Binding). map_of bs)
    (bound_stays (trees d.words old) (trees d.words new) (trees_front d.words old new f) (names_in_places d.words places) values
    (below_trees d.words old values b) [])

pub row_stays : (d : Data) (old new : List (List ℕ)) (places : List (Option ℕ)) (values : List ℕ) → length old ≤ length new
    → IsRow d old places values → IsRow d new places values
row_stays d old new places values h r = record { names = r.names; long = r.long; below = go values r.below }
  where
    go : (xs : List ℕ) → NumbersBelow (length old) xs → NumbersBelow (length new) xs
    go [] b = tt
    go (x ∷ xs) b = (let less = b.0 in omega (arith, h, less), go xs b.1)

-- the atom that was built is that of the row
pub atom_of_row : (d : Data) (from : ℕ) (places : List (Option ℕ)) (values : List ℕ) (old new : List (List ℕ)) (a : Atom) (k w : ℕ)
    → w ≡ (signature_at d.signatures a.relation).word
    → BeginsWith old new → IsRow d old places values → CanBuild d from places a
    → term_at (trees d.words new) k ≡ tree_at (word_at d.words w)
    (trees_of (ground_terms d.words (place_value (trees d.words new) values) (map (placed_part d from places) (parts_in d a)) []))
    → term_at (trees d.words new) k ≡ tree_of (atom_under (row_map d old places values) (stated_atom d from a))
atom_of_row d from places values old new a k w w_is f r c e =
    e ∙ ap (λ (ts : Trees). tree_at (word_at d.words w) ts)
    (placed_agree d from (trees d.words new) places values r.names r.long w (parts_in d a) c.inside.sorted c.placed
    ∙ ap (λ (m : Map). substitute_all m (stated_atom d from a).terms) (map_stays d old new places values f r.below))
    ∙ ap (λ (n : ℕ). tree_at (word_at d.words n) (substitute_all (row_map d old places values) (stated_atom d from a).terms)) w_is
