-- Atoms by their keys, where lists are told by the numbers of their terms.
use Rattle.std.proofs.Common.{ℕ, ◌≡◌, ◌≢◌, ◌<◌, List, [], ◌∷◌, map, length, refl, sym, ◌∙◌, ap, subst, arith, Option, Some, None}
use Rattle.std.specs.Prelude.{MatchOption, IfSome}
use Rattle.statement.specs.Tree.{Tree, trees_of}
use Rattle.statement.specs.Clause.{tree_at, tree_of}
use Rattle.rules_clauses.specs.declared.numbered.Atom.{Atom}
use Rattle.rules_clauses.specs.declared.numbered.Part.{Part}
use Rattle.rules_clauses.specs.Marks.{literal_in, NumbersBelow}
use Rattle.rules_clauses.specs.Numbers.{BeginsWith, NamesDiffer, word_at}
use Rattle.rules_clauses.specs.Signatures.{signature_at}
use Rattle.rules_clauses.specs.Store.{Data, stated_atom}
use Rattle.util_interner.specs.KeyLists.{key_at}
use Rattle.ground_matching.specs.Levels.{parts_in}
use Rattle.ground_matching.specs.Placed.{placed_atom}
use Rattle.ground_matching.specs.Plans.{CanBuild}
use Rattle.statement.specs.Substitution.{atom_under}
use Rattle.ground_terms.specs.Arena.{AreNumbered}
use Rattle.ground_terms.specs.Building.{PartsPlaced}
use Rattle.ground_terms.specs.Keys.{word_of, parts_of, term_at, trees, tree_of_key}
use Rattle.ground_terms.proofs.Facts.{front_itself, front_length, tree_of_number, length_trees, different, atom_key, below_more}
use Rattle.ground_rows.specs.declared.kept_keys.BlankKey.{BlankKey}
use Rattle.ground_rows.specs.Instances.{row_map, IsNowhere, IsNumberIn, IsRow, atom_by}
use Rattle.ground_rows.specs.Pairs.{IsKeyOf, PartNumbers}
use Rattle.ground_rows.specs.Settled.{AreTerms, AreNumbersOf, Settles, AreAbsent, terms_by}
use Rattle.ground_rows.specs.Sought.{word_in, AreSince, HaveValues, IsBlankKey, filled}
use Rattle.ground_rows.proofs.Facts.{numbers_are, numbers_within, same_numbers, key_whole, key_word, key_below, nowhere}
use Rattle.ground_rows.proofs.Facts.{row_terms}
use Rattle.ground_rows.proofs.Facts.{are_placed, atom_of_row}
use Rattle.ground_rows.proofs.Facts.{numbers_once, trees_same}

module _ (d : Data) (differ : NamesDiffer d.words) (from : ℕ) (keys : List (List ℕ)) (numbered : AreNumbered (length d.words) keys)
    (places : List (Option ℕ)) (row : List ℕ) (r : IsRow d keys places row) (a : Atom) (c : CanBuild d from places a) where
  each : PartsPlaced (length d.words) (length row) (placed_atom d from places a)
  each = are_placed d from (length d.words) places row refl r.long (parts_in d a) c.inside.sorted c.placed c.filled

  -- the terms at the time of a row
  row_terms_at : (first : List (List ℕ)) → BeginsWith first keys → AreTerms d.words first (placed_atom d from places a) keys row
  row_terms_at first f = record { differ = differ; front = f; numbered = numbered; below = r.below; placed = each }

  -- the numbers in a key
  plain_numbers : (ns : List ℕ) → PartNumbers row (placed_atom d from places a) ns → AreNumbersOf d.words keys row (placed_atom d from places a) ns
  plain_numbers ns own = record {
    below = numbers_within d.words differ keys numbered row r.below (placed_atom d from places a) ns each own;
    are = numbers_are d.words differ keys numbered row r.below (placed_atom d from places a) ns each own;
  }

  settled_numbers : (first : List (List ℕ)) → BeginsWith first keys → (qs : List Part) → Settles d.words first (placed_atom d from places a) qs
      → (ns : List ℕ) → PartNumbers row qs ns → AreNumbersOf d.words keys row (placed_atom d from places a) ns
  settled_numbers first f qs settles ns own =
      let s = settles keys row (row_terms_at first f) in
      subst (λ (ms : List ℕ). AreNumbersOf d.words keys row (placed_atom d from places a) ms) (numbers_once row qs s.0 ns s.1.0 own) s.1.1

  -- a term with the key is the atom
  key_term : (w k : ℕ) (ns : List ℕ) → w ≡ (signature_at d.signatures a.relation).word → AreNumbersOf d.words keys row (placed_atom d from places a) ns
      → k < length keys → key_at keys k ≡ w ∷ ns
      → term_at (trees d.words keys) k ≡ tree_of (atom_under (row_map d keys places row) (stated_atom d from a))
  key_term w k ns w_is own within at =
      atom_of_row d from places row keys keys a k w w_is (front_itself keys) r c
      (tree_of_number d.words (length d.words) keys numbered.keyed k within ∙ ap (λ (xs : List ℕ). tree_of_key d.words (trees d.words keys) xs) at
      ∙ ap (λ (ts : List Tree). tree_at (word_at d.words w) (trees_of ts)) own.are)

  -- what the key of a term says that is the atom
  module _ (m : ℕ) (less : m < length keys)
      (e : term_at (trees d.words keys) m ≡ tree_of (atom_under (row_map d keys places row) (stated_atom d from a))) where
    inside : m < length (trees d.words keys)
    inside = let long = length_trees d.words [] keys in omega (arith, less, long)

    word_same : (w : ℕ) → w ≡ (signature_at d.signatures a.relation).word → word_of (key_at keys m) ≡ w
    word_same w w_is =
        let s = atom_key d.words differ keys numbered.keyed m (atom_under (row_map d keys places row) (stated_atom d from a)) inside e in
        differ (word_of (key_at keys m)) w (key_word (length d.words) m (key_at keys m) (numbered.keyed.each m less))
        (subst (λ (v : ℕ). v < length d.words) (sym w_is) c.inside.word)
        (s.word ∙ ap (λ (v : ℕ). word_at d.words v) (sym w_is))

    terms_same : map (term_at (trees d.words keys)) (parts_of (key_at keys m)) ≡ terms_by d.words keys row (placed_atom d from places a)
    terms_same =
        let s = atom_key d.words differ keys numbered.keyed m (atom_under (row_map d keys places row) (stated_atom d from a)) inside e in
        trees_same (map (term_at (trees d.words keys)) (parts_of (key_at keys m))) (terms_by d.words keys row (placed_atom d from places a))
        (s.parts ∙ row_terms d from keys places row a r c)

    parts_below : NumbersBelow m (parts_of (key_at keys m))
    parts_below = key_below (length d.words) m (key_at keys m) (numbered.keyed.each m less)

    -- it is the one with its word and its terms
    key_same : (w : ℕ) (ns : List ℕ) → w ≡ (signature_at d.signatures a.relation).word
        → AreNumbersOf d.words keys row (placed_atom d from places a) ns → key_at keys m ≡ w ∷ ns
    key_same w ns w_is own =
        let all = trees d.words keys in
        let long = length_trees d.words [] keys in
        let k = key_at keys m in
        let parts : parts_of k ≡ ns =
        same_numbers all (different d.words differ keys numbered.keyed) (parts_of k) ns
        (below_more m (length all) (parts_of k) (omega (arith, less, long)) parts_below)
        (below_more (length keys) (length all) ns (omega (arith, long)) own.below)
        (ap (λ (ts : List Tree). trees_of ts) (terms_same ∙ sym own.are)) in
        key_whole (length d.words) m k (numbered.keyed.each m less) ∙ ap (λ (v : ℕ). v ∷ parts_of k) (word_same w w_is)
        ∙ ap (λ (xs : List ℕ). w ∷ xs) parts

    -- where a list is no term, it is none of the first
    absent_term : (first : List (List ℕ)) → BeginsWith first keys → AreAbsent d.words first (placed_atom d from places a) → m < length first → ⊥
    absent_term first f absent within =
        absent keys row (parts_of (key_at keys m)) (row_terms_at first f)
        (below_more m (length first) (parts_of (key_at keys m)) (omega (arith, within)) parts_below) terms_same

module _ (d : Data) (differ : NamesDiffer d.words) (from : ℕ) (keys : List (List ℕ)) (numbered : AreNumbered (length d.words) keys)
    (places : List (Option ℕ)) (row : List ℕ) (r : IsRow d keys places row) (n : ℕ) (c : CanBuild d from places (literal_in d n).atom) where
  -- an atom is looked up by its key
  found_by_key : (key ns numbers : List ℕ) (o : Option ℕ) → key ≡ word_in d n ∷ ns
      → AreNumbersOf d.words keys row (placed_atom d from places (literal_in d n).atom) ns
      → MatchOption o ((k : ℕ) → k < length keys → key_at keys k ≢ key) (λ k. (k < length keys) × (key_at keys k ≡ key))
      → IsNumberIn d.words keys numbers (atom_by d from keys places row n) o
  found_by_key key ns numbers (Some k) is own found = (
    found.0,
    key_term d differ from keys numbered places row r (literal_in d n).atom c (word_in d n) k ns refl own found.0 (found.1 ∙ is),
  )
  found_by_key key ns numbers None is own absent = λ so_far b.
      let long = length_trees d.words [] keys in
      nowhere (trees d.words keys) (length keys) (atom_by d from keys places row n)
      (λ m h e. absent m h (key_same d differ from keys numbered places row r (literal_in d n).atom c m h e (word_in d n) ns refl own ∙ sym is))
      numbers so_far (below_more (length (trees d.words keys)) (length keys) numbers (omega (arith, long)) b.below) b

  pub looked_up : (ps : List Part) (key numbers : List ℕ) (o : Option ℕ) → ps ≡ placed_atom d from places (literal_in d n).atom
      → IsKeyOf row (word_in d n) ps key
      → MatchOption o ((k : ℕ) → k < length keys → key_at keys k ≢ key) (λ k. (k < length keys) × (key_at keys k ≡ key))
      → IsNumberIn d.words keys numbers (atom_by d from keys places row n) o
  looked_up ps key numbers o ps_are is found =
      found_by_key key is.numbers numbers o is.is
      (plain_numbers d differ from keys numbered places row r (literal_in d n).atom c is.numbers
      (subst (λ (qs : List Part). PartNumbers row qs is.numbers) ps_are is.are)) found

  -- and where its lists are settled
  pub looked_up_settled : (first : List (List ℕ)) → BeginsWith first keys → (ps qs : List Part) (key numbers : List ℕ) (o : Option ℕ)
      → ps ≡ placed_atom d from places (literal_in d n).atom → Settles d.words first ps qs → IsKeyOf row (word_in d n) qs key
      → MatchOption o ((k : ℕ) → k < length keys → key_at keys k ≢ key) (λ k. (k < length keys) × (key_at keys k ≡ key))
      → IsNumberIn d.words keys numbers (atom_by d from keys places row n) o
  looked_up_settled first f ps qs key numbers o ps_are settles is found =
      found_by_key key is.numbers numbers o is.is
      (settled_numbers d differ from keys numbered places row r (literal_in d n).atom c first f qs
      (subst (λ (rs : List Part). Settles d.words first rs qs) ps_are settles) is.numbers is.are) found

  -- and where one of them was no term
  pub absent_atom : (first : List (List ℕ)) (numbers : List ℕ) → AreSince first keys numbers → (ps : List Part)
      → ps ≡ placed_atom d from places (literal_in d n).atom → AreAbsent d.words first ps
      → IsNowhere d.words keys numbers (atom_by d from keys places row n)
  absent_atom first numbers since ps ps_are absent = λ so_far b.
      let l = front_length first keys since.front in
      nowhere (trees d.words keys) (length first) (atom_by d from keys places row n)
      (λ m h e. absent_term d differ from keys numbered places row r (literal_in d n).atom c m (omega (arith, h, l)) e first since.front
      (subst (λ (rs : List Part). AreAbsent d.words first rs) ps_are absent) h)
      numbers so_far since.below b

-- a key with the values is that of the atom
pub filled_is : (there : Option ℕ) (hash word : ℕ) (ps : List Part) (b : BlankKey) (values key : List ℕ) → IsBlankKey word ps b → there ≡ Some hash
    → IfSome there (λ _. HaveValues values b.blanks.items) → IfSome there (λ _. key ≡ filled values b.blanks.items b.key.items)
    → IsKeyOf values word ps key
filled_is (Some h) hash word ps b values key is e told same = subst (λ (xs : List ℕ). IsKeyOf values word ps xs) (sym same) (is.fills values told)
filled_is None hash word ps b values key is e told same = absurd cc
