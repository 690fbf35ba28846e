-- Which base propositions hold at the start.
use Rattle.std.proofs.Common.{ℕ, ◌<◌, true, false, ◌≡◌, List, [], ◌∷◌, length, map, nat_eq, eqb-true, refl, sym, ap, subst, ◌∙◌, arith}
use Rattle.std.specs.Prelude.{filter, not}
use Rattle.std.specs.List.{list_any}
use Rattle.statement.specs.Tree.{Tree, name_eq, trees_of}
use Rattle.kif.proofs.Facts.{name_eq_yes, name_eq_self}
use Rattle.statement.specs.Clause.{Atom, Alternative, tree_of, atom_eq}
use Rattle.statement.specs.Dependence.{IsAmong, is_fixed}
use Rattle.statement.specs.Order.{relations_in_order}
use Rattle.statement.specs.Words.{w_init}
use Rattle.rules_profile.proofs.Facts.{atom_eq_yes, atom_eq_self, IsAmong-append_left}
use Rattle.ground_terms.specs.Arena.{AreNumbered}
use Rattle.ground_terms.specs.Atoms.{AreAtoms}
use Rattle.rules_clauses.specs.Marks.{NumbersBelow}
use Rattle.rules_clauses.specs.Numbers.{word_at, NamesDiffer}
use Rattle.ground_terms.specs.Keys.{term_at, trees, tree_of_key, IsKey, AreKeys}
use Rattle.util_interner.specs.KeyLists.{key_at}
use Rattle.meaning.specs.Listed.{IsWellFormed}
use Rattle.statement.specs.Listing.{is_atom_in, with_atoms, context_atoms, fixed_listing, listing, Listing}
use Rattle.statement.specs.Meaning.{atom1}
use Rattle.statement.specs.GoalsAndMoves as play
use Rattle.ground_terms.specs.Starting.{has_key, starts_in}
use Rattle.meaning.proofs.Facts.{numbered_exact, with_left, always_listed, is_atom_yes, is_atom_in_yes, kept_always, steps_front, possible_plain}
use Rattle.ground_terms.proofs.AtomLemmas.{tree_once, same_test, nat_eq_self}
use Rattle.ground_terms.proofs.KeyTrees.{below_more, parts_of_tree, tree_of_number, different, length_trees}

-- Looking a key up by its number.

pub known_key : (many : ℕ) (keys : List (List ℕ)) (key : List ℕ) (k : ℕ) → AreNumbered many keys → k < length keys → key_at keys k ≡ key
    → (ns : List ℕ) → NumbersBelow (length keys) ns → list_any (nat_eq k) ns ≡ has_key keys ns key
known_key many keys key k numbered h e [] b = refl
known_key many keys key k numbered h e (n ∷ ns) b =
    let first : nat_eq k n ≡ name_eq (key_at keys n) key = same_test (nat_eq k n) (name_eq (key_at keys n) key) there back in
    let rest = known_key many keys key k numbered h e ns b.1 in cc
  where
    there : nat_eq k n ≡ true → name_eq (key_at keys n) key ≡ true
    there t =
        let same : k ≡ n = eqb-true k n t in
        subst (λ (m : ℕ). name_eq (key_at keys m) key ≡ true) same (subst (λ (l : List ℕ). name_eq l key ≡ true) (sym e) (name_eq_self key))

    back : name_eq (key_at keys n) key ≡ true → nat_eq k n ≡ true
    back t =
        let same : k ≡ n = numbered.keyed.once k n h b.0 (e ∙ sym (name_eq_yes (key_at keys n) key t)) in
        subst (λ (m : ℕ). nat_eq k m ≡ true) same (nat_eq_self k)

pub unknown_key : (keys : List (List ℕ)) (key : List ℕ) → ((k : ℕ) → k < length keys → key_at keys k ≡ key → ⊥) → (ns : List ℕ)
    → NumbersBelow (length keys) ns → false ≡ has_key keys ns key
unknown_key keys key none [] b = refl
unknown_key keys key none (n ∷ ns) b =
    let first : false ≡ name_eq (key_at keys n) key = same_test false (name_eq (key_at keys n) key) (λ t. absurd cc)
    (λ t. absurd (none n b.0 (name_eq_yes (key_at keys n) key t))) in
    let rest = unknown_key keys key none ns b.1 in cc

-- What keys of atoms are.

module _ (words : List (List ℕ)) (differ : NamesDiffer words) (keys : List (List ℕ)) (keyed : AreKeys (length words) keys) where
  numbers_same : (ps qs : List ℕ) → NumbersBelow (length (trees words keys)) ps → NumbersBelow (length (trees words keys)) qs
      → trees_of (map (term_at (trees words keys)) ps) ≡ trees_of (map (term_at (trees words keys)) qs) → ps ≡ qs
  numbers_same [] [] b c e = refl
  numbers_same [] (q ∷ qs) b c e = absurd cc
  numbers_same (p ∷ ps) [] b c e = absurd cc
  numbers_same (p ∷ ps) (q ∷ qs) b c e =
      let first : term_at (trees words keys) p ≡ term_at (trees words keys) q = cc in
      let rest : trees_of (map (term_at (trees words keys)) ps) ≡ trees_of (map (term_at (trees words keys)) qs) = cc in
      let same : p ≡ q = different words differ keys keyed p q b.0 c.0 first in
      let more = numbers_same ps qs b.1 c.1 rest in cc

  module _ (w : ℕ) (w_in : w < length words) (ps : List ℕ) (ps_in : NumbersBelow (length (trees words keys)) ps) where
    key_of : (n : ℕ) → n < length keys → term_at (trees words keys) n ≡ tree_of_key words (trees words keys) (w ∷ ps) → key_at keys n ≡ w ∷ ps
    key_of n h e = go (key_at keys n) (keyed.each n h) (sym (tree_of_number words (length words) keys keyed n h) ∙ e)
      where
        go : (key : List ℕ) → IsKey (length words) n key → tree_of_key words (trees words keys) key ≡ tree_of_key words (trees words keys) (w ∷ ps)
            → key ≡ w ∷ ps
        go [] k f = absurd k
        go (v ∷ qs) k f =
            let s = parts_of_tree (word_at words v) (word_at words w) (trees_of (map (term_at (trees words keys)) qs))
            (trees_of (map (term_at (trees words keys)) ps)) f in
            let word : v ≡ w = differ v w k.0 w_in s.word in
            let long = length_trees words [] keys in
            let parts : qs ≡ ps = numbers_same qs ps (below_more n (length (trees words keys)) qs (omega (arith, h, long)) k.1) ps_in s.parts in cc

    -- an atom is there exactly where its key is
    has_same : (x : Atom) → tree_of_key words (trees words keys) (w ∷ ps) ≡ tree_of x → (ns : List ℕ) (xs : List Atom)
        → AreAtoms (trees words keys) ns xs
        → has_key keys ns (w ∷ ps) ≡ is_atom_in x xs
    has_same x e [] [] a = refl
    has_same x e [] (y ∷ ys) a = let f = a.same in absurd cc
    has_same x e (n ∷ ns) [] a = let f = a.same in absurd cc
    has_same x e (n ∷ ns) (y ∷ ys) a =
        let f = a.same in
        let first : term_at (trees words keys) n ≡ tree_of y = cc in
        let long = length_trees words [] keys in
        let inside = a.below.0 in
        let here = one n y (omega (arith, inside, long)) first in
        let rest = has_same x e ns ys (record { below = a.below.1; same = cc }) in cc
      where
        one : (n : ℕ) (y : Atom) → n < length keys → term_at (trees words keys) n ≡ tree_of y → name_eq (key_at keys n) (w ∷ ps) ≡ atom_eq x y
        one n y h f = same_test (name_eq (key_at keys n) (w ∷ ps)) (atom_eq x y) there back
          where
            there : name_eq (key_at keys n) (w ∷ ps) ≡ true → atom_eq x y ≡ true
            there t =
                let k = name_eq_yes (key_at keys n) (w ∷ ps) t in
                let same : x ≡ y = tree_once x y (sym e ∙ sym (ap (tree_of_key words (trees words keys)) k)
                ∙ sym (tree_of_number words (length words) keys keyed n h) ∙ f) in
                subst (λ (z : Atom). atom_eq x z ≡ true) same (atom_eq_self x)

            back : atom_eq x y ≡ true → name_eq (key_at keys n) (w ∷ ps) ≡ true
            back t =
                let k = key_of n h (f ∙ ap tree_of (sym (atom_eq_yes x y t)) ∙ sym e) in
                subst (λ (l : List ℕ). name_eq l (w ∷ ps) ≡ true) (sym k) (name_eq_self (w ∷ ps))

-- `init` is an atom of the listing exactly where it is one of the fixed part.

module _ (rules : List Alternative) (w : IsWellFormed rules) where
  pub init_fixed : (p : Tree) → is_atom_in (atom1 w_init p) (listing rules).atoms ≡ play.starts rules p
  init_fixed p = same_test (is_atom_in (atom1 w_init p) (listing rules).atoms) (play.starts rules p) there back
    where
      x : Atom
      x = atom1 w_init p

      there : is_atom_in (atom1 w_init p) (listing rules).atoms ≡ true → play.starts rules p ≡ true
      there t =
          let a = is_atom_yes (atom1 w_init p) (listing rules).atoms t in
          let kept = possible_plain rules (atom1 w_init p) refl ((numbered_exact rules w (atom1 w_init p)).0 a) in
          is_atom_in_yes (atom1 w_init p) (fixed_listing rules).atoms
          (always_listed rules w (atom1 w_init p) refl w.init (kept_always rules w.acyclic (atom1 w_init p) w.init kept))

      back : play.starts rules p ≡ true → is_atom_in (atom1 w_init p) (listing rules).atoms ≡ true
      back t =
          let a = is_atom_yes (atom1 w_init p) (fixed_listing rules).atoms t in
          let start : Listing = record {
            atoms = with_atoms (fixed_listing rules).atoms (context_atoms (fixed_listing rules).atoms);
            kept = (fixed_listing rules).kept;
          } in
          let front = steps_front rules start (filter (λ p. not (is_fixed rules p)) (relations_in_order rules)) in
          let b = with_left (atom1 w_init p) (fixed_listing rules).atoms (context_atoms (fixed_listing rules).atoms) a in
          is_atom_in_yes (atom1 w_init p) (listing rules).atoms
          (subst (λ (xs : List Atom). IsAmong (atom1 w_init p) xs) (sym front.1) (IsAmong-append_left (atom1 w_init p) start.atoms front.0 b))

  module _ (words : List (List ℕ)) (differ : NamesDiffer words) (keys : List (List ℕ)) (keyed : AreKeys (length words) keys) (init : ℕ)
      (init_in : init < length words) (init_is : word_at words init ≡ w_init)
      (atoms : List ℕ) (are : AreAtoms (trees words keys) atoms (listing rules).atoms) where
    start_same : (p : ℕ) → p < length (trees words keys) → starts_in keys atoms init p ≡ play.starts rules (term_at (trees words keys) p)
    start_same p h =
        has_same words differ keys keyed init init_in (p ∷ []) (h, tt) (atom1 w_init (term_at (trees words keys) p))
        (ap (λ (v : List ℕ). tree_of (atom1 v (term_at (trees words keys) p))) init_is) atoms (listing rules).atoms are
        ∙ init_fixed (term_at (trees words keys) p)

    pub starts_same : (ps : List ℕ) (ts : List Tree) → NumbersBelow (length (trees words keys)) ps → map (term_at (trees words keys)) ps ≡ ts
        → map (starts_in keys atoms init) ps ≡ map (play.starts rules) ts
    starts_same [] [] b e = refl
    starts_same [] (t ∷ ts) b e = absurd cc
    starts_same (p ∷ ps) [] b e = absurd cc
    starts_same (p ∷ ps) (t ∷ ts) b e =
        let first : term_at (trees words keys) p ≡ t = cc in
        let rest : map (term_at (trees words keys)) ps ≡ ts = cc in
        let here = start_same p b.0 in
        let more = starts_same ps ts b.1 rest in cc
