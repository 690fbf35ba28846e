-- The terms that atoms state are those of the definition.
use Rattle.std.proofs.Common.{
  ℕ,
  ◌<◌,
  ◌≤◌,
  Bool,
  true,
  false,
  cond,
  ◌&&◌,
  ◌==◌,
  ◌≡◌,
  List,
  [],
  ◌∷◌,
  ◌++◌,
  length,
  map,
  eqb-true,
  refl,
  sym,
  ap,
  subst,
  ◌∙◌,
  arith,
}
use Rattle.std.proofs.lemmas.List.{map-append}
use Rattle.statement.specs.Tree.{Tree, Trees, trees_of, name_eq, tree_eq}
use Rattle.kif.proofs.Facts.{name_eq_yes, name_eq_self, tree_eq_yes, tree_eq_self}
use Rattle.statement.specs.Clause.{Atom, relation_of, is_word, tree_of, count_trees}
use Rattle.rules_clauses.specs.Numbers.{word_at, NamesDiffer}
use Rattle.ground_terms.specs.Keys.{word_of, parts_of, term_at, trees, IsKey, AreKeys}
use Rattle.util_interner.specs.KeyLists.{key_at}
use Rattle.ground_terms.specs.Atoms.{AreAtoms}
use Rattle.statement.specs.Listing.{one_term, terms_of, terms_with}
use Rattle.statement.specs.Listing as listing
use Rattle.ground_terms.specs.Stated.{one_of, second_of, one_part, second_part, only_parts, second_parts}
use Rattle.ground_terms.proofs.AtomLemmas.{first_atom, same_test, nat_eq_self}
use Rattle.ground_terms.proofs.KeyTrees.{Same, parts_of_tree, tree_of_number, different, length_trees}

if_none : {A : Type 0} (b : Bool) → ◌≡◌ {A = List A} (cond b [] []) []
if_none true = refl
if_none false = refl

module _ (words : List (List ℕ)) (differ : NamesDiffer words) where
  -- names are the same exactly where their numbers are
  words_same : (v w : ℕ) → v < length words → w < length words → (v == w) ≡ name_eq (word_at words v) (word_at words w)
  words_same v w h k = same_test (v == w) (name_eq (word_at words v) (word_at words w)) there back
    where
      there : (v == w) ≡ true → name_eq (word_at words v) (word_at words w) ≡ true
      there e = subst (λ (n : ℕ). name_eq (word_at words v) (word_at words n) ≡ true) (eqb-true v w e) (name_eq_self (word_at words v))

      back : name_eq (word_at words v) (word_at words w) ≡ true → (v == w) ≡ true
      back e = subst (λ (n : ℕ). (v == n) ≡ true) (differ v w h k (name_eq_yes (word_at words v) (word_at words w) e)) (nat_eq_self v)

  module _ (keys : List (List ℕ)) (keyed : AreKeys (length words) keys) where
    -- and so are terms
    pub terms_same : (t r : ℕ) → t < length (trees words keys) → r < length (trees words keys)
        → (t == r) ≡ tree_eq (term_at (trees words keys) t) (term_at (trees words keys) r)
    terms_same t r h k = same_test (t == r) (tree_eq (term_at (trees words keys) t) (term_at (trees words keys) r)) there back
      where
        there : (t == r) ≡ true → tree_eq (term_at (trees words keys) t) (term_at (trees words keys) r) ≡ true
        there e = subst (λ (n : ℕ). tree_eq (term_at (trees words keys) t) (term_at (trees words keys) n) ≡ true) (eqb-true t r e)
            (tree_eq_self (term_at (trees words keys) t))

        back : tree_eq (term_at (trees words keys) t) (term_at (trees words keys) r) ≡ true → (t == r) ≡ true
        back e = subst (λ (n : ℕ). (t == n) ≡ true)
            (different words differ keys keyed t r h k (tree_eq_yes (term_at (trees words keys) t) (term_at (trees words keys) r) e)) (nat_eq_self t)

    -- the key of an atom has its word and its terms
    pub atom_key : (n : ℕ) (x : Atom) → n < length (trees words keys) → term_at (trees words keys) n ≡ tree_of x
        → Same (word_at words (word_of (key_at keys n))) x.word (trees_of (map (term_at (trees words keys)) (parts_of (key_at keys n)))) x.terms
    atom_key n x h e =
        let long = length_trees words [] keys in
        parts_of_tree _ x.word _ x.terms (sym (tree_of_number words (length words) keys keyed n (omega (arith, h, long))) ∙ e)

    module _ (w : ℕ) (w_in : w < length words) where
      one_by_key : (key : List ℕ) (n : ℕ) → IsKey (length words) n key → (word : List ℕ) (ts : Trees)
          → Same (word_at words (word_of key)) word (trees_of (map (term_at (trees words keys)) (parts_of key))) ts
          → map (term_at (trees words keys)) (one_of w key) ≡ cond (is_word (word_at words w) 1 (record { word = word; arity = count_trees ts }))
          (one_term ts) []
      one_by_key [] n h word ts s = absurd h
      one_by_key (v ∷ []) n h word ts s =
          subst (λ (us : Trees). [] ≡ cond (is_word (word_at words w) 1 (record { word = word; arity = count_trees us })) (one_term us) []) s.parts
          (sym (if_none (is_word (word_at words w) 1 (record { word = word; arity = 0 }))))
      one_by_key (v ∷ (t ∷ [])) n h word ts s =
          subst (λ (us : Trees). map (term_at (trees words keys)) (cond (v == w) (t ∷ []) []) ≡ cond
          (is_word (word_at words w) 1 (record { word = word; arity = count_trees us })) (one_term us) []) s.parts
          (subst (λ (m : List ℕ). map (term_at (trees words keys)) (cond (v == w) (t ∷ []) []) ≡ cond (name_eq m (word_at words w) && true)
          (term_at (trees words keys) t ∷ []) []) s.word (go (v == w) (words_same v w h.0 w_in)))
        where
          go : (b : Bool) → b ≡ name_eq (word_at words v) (word_at words w)
              → map (term_at (trees words keys)) (cond b (t ∷ []) []) ≡ cond (name_eq (word_at words v) (word_at words w) && true)
              (term_at (trees words keys) t ∷ []) []
          go true e = let f = sym e in rw f refl
          go false e = let f = sym e in rw f refl
      one_by_key (v ∷ (t ∷ (u ∷ us))) n h word ts s =
          subst (λ (ys : Trees). [] ≡ cond (is_word (word_at words w) 1 (record { word = word; arity = count_trees ys })) (one_term ys) []) s.parts
          (sym (if_none (is_word (word_at words w) 1
          (record { word = word; arity = count_trees (trees_of (map (term_at (trees words keys)) (t ∷ (u ∷ us)))) }))))

      -- the only terms of the atoms with a word
      pub only_terms : (ns : List ℕ) (xs : List Atom) → AreAtoms (trees words keys) ns xs
          → map (term_at (trees words keys)) (only_parts keys w ns) ≡ terms_of (word_at words w) xs
      only_terms [] [] a = refl
      only_terms [] (x ∷ xs) a = let e = a.same in absurd cc
      only_terms (n ∷ ns) [] a = let e = a.same in absurd cc
      only_terms (n ∷ ns) (x ∷ xs) a =
          let f = first_atom (trees words keys) n ns x xs a in
          let long = length_trees words [] keys in
          let inside = f.inside in
          let k = keyed.each n (omega (arith, inside, long)) in
          map-append (term_at (trees words keys)) (one_part keys w n) (only_parts keys w ns)
          ∙ ap (λ (l : List Tree). l ++ map (term_at (trees words keys)) (only_parts keys w ns))
          (one_by_key (key_at keys n) n k x.word x.terms (atom_key n x f.inside f.first))
          ∙ ap (λ (l : List Tree). cond (is_word (word_at words w) 1 (relation_of x)) (one_term x.terms) [] ++ l) (only_terms ns xs f.rest)

      module _ (r : ℕ) (r_in : r < length (trees words keys)) where
        second_by_key : (key : List ℕ) (n : ℕ) → n ≤ length (trees words keys) → IsKey (length words) n key → (word : List ℕ) (ts : Trees)
            → Same (word_at words (word_of key)) word (trees_of (map (term_at (trees words keys)) (parts_of key))) ts
            → map (term_at (trees words keys)) (second_of w r key)
            ≡ cond (is_word (word_at words w) 2 (record { word = word; arity = count_trees ts }))
            (listing.second_of (term_at (trees words keys) r) ts) []
        second_by_key [] n m h word ts s = absurd h
        second_by_key (v ∷ []) n m h word ts s =
            subst (λ (ys : Trees). [] ≡ cond (is_word (word_at words w) 2 (record { word = word; arity = count_trees ys }))
            (listing.second_of (term_at (trees words keys) r) ys) []) s.parts
            (sym (if_none (is_word (word_at words w) 2 (record { word = word; arity = 0 }))))
        second_by_key (v ∷ (t ∷ [])) n m h word ts s =
            subst (λ (ys : Trees). [] ≡ cond (is_word (word_at words w) 2 (record { word = word; arity = count_trees ys }))
            (listing.second_of (term_at (trees words keys) r) ys) []) s.parts
            (sym (if_none (is_word (word_at words w) 2 (record { word = word; arity = 1 }))))
        second_by_key (v ∷ (t ∷ (u ∷ []))) n m h word ts s =
            let less = h.1.0 in
            subst (λ (ys : Trees). map (term_at (trees words keys)) (cond (v == w) (cond (t == r) (u ∷ []) []) [])
            ≡ cond (is_word (word_at words w) 2 (record { word = word; arity = count_trees ys }))
            (listing.second_of (term_at (trees words keys) r) ys) []) s.parts
            (subst (λ (q : List ℕ). map (term_at (trees words keys)) (cond (v == w) (cond (t == r) (u ∷ []) []) [])
            ≡ cond (name_eq q (word_at words w) && true)
            (cond (tree_eq (term_at (trees words keys) t) (term_at (trees words keys) r)) (term_at (trees words keys) u ∷ []) []) []) s.word
            (go (v == w) (words_same v w h.0 w_in) (t == r) (terms_same t r (omega (arith, less, m)) r_in)))
          where
            go : (b : Bool) → b ≡ name_eq (word_at words v) (word_at words w) → (c : Bool)
                → c ≡ tree_eq (term_at (trees words keys) t) (term_at (trees words keys) r)
                → map (term_at (trees words keys)) (cond b (cond c (u ∷ []) []) [])
                ≡ cond (name_eq (word_at words v) (word_at words w) && true)
                (cond (tree_eq (term_at (trees words keys) t) (term_at (trees words keys) r)) (term_at (trees words keys) u ∷ []) []) []
            go true e true f = let g = sym e in let k = sym f in rw g (rw k refl)
            go true e false f = let g = sym e in let k = sym f in rw g (rw k refl)
            go false e c f = let g = sym e in rw g refl
        second_by_key (v ∷ (t ∷ (u ∷ (x ∷ xs)))) n m h word ts s =
            subst (λ (ys : Trees). [] ≡ cond (is_word (word_at words w) 2 (record { word = word; arity = count_trees ys }))
            (listing.second_of (term_at (trees words keys) r) ys) []) s.parts
            (sym (if_none (is_word (word_at words w) 2
            (record { word = word; arity = count_trees (trees_of (map (term_at (trees words keys)) (t ∷ (u ∷ (x ∷ xs))))) }))))

        -- the second terms of the atoms with a word and a first term
        pub second_terms : (ns : List ℕ) (xs : List Atom) → AreAtoms (trees words keys) ns xs
            → map (term_at (trees words keys)) (second_parts keys w r ns) ≡ terms_with (word_at words w) (term_at (trees words keys) r) xs
        second_terms [] [] a = refl
        second_terms [] (x ∷ xs) a = let e = a.same in absurd cc
        second_terms (n ∷ ns) [] a = let e = a.same in absurd cc
        second_terms (n ∷ ns) (x ∷ xs) a =
            let f = first_atom (trees words keys) n ns x xs a in
            let long = length_trees words [] keys in
            let inside = f.inside in
            let k = keyed.each n (omega (arith, inside, long)) in
            map-append (term_at (trees words keys)) (second_part keys w r n) (second_parts keys w r ns)
            ∙ ap (λ (l : List Tree). l ++ map (term_at (trees words keys)) (second_parts keys w r ns))
            (second_by_key (key_at keys n) n (omega (arith, inside)) k x.word x.terms (atom_key n x f.inside f.first))
            ∙ ap (λ (l : List Tree). cond (is_word (word_at words w) 2 (relation_of x)) (listing.second_of (term_at (trees words keys) r) x.terms) []
            ++ l) (second_terms ns xs f.rest)
