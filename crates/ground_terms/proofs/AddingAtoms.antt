-- Further atoms are numbered one after the other.
use Rattle.std.proofs.Common.{
  ℕ,
  suc,
  ◌<◌,
  ◌+◌,
  Bool,
  true,
  false,
  cond,
  ◌≡◌,
  List,
  [],
  ◌∷◌,
  ◌++◌,
  length,
  map,
  drop,
  drop-cons,
  get_or,
  append_assoc,
  refl,
  sym,
  ap,
  subst,
  ◌∙◌,
  arith,
}
use Rattle.std.proofs.lemmas.List.{length-map}
use Rattle.statement.specs.Tree.{Tree, trees_of}
use Rattle.statement.specs.Clause.{Atom, tree_at, tree_of}
use Rattle.statement.specs.Safety.{is_name_in}
use Rattle.ground_terms.specs.Arena.{Held, AreNumbered, cut}
use Rattle.rules_clauses.specs.Numbers.{BeginsWith, word_at}
use Rattle.ground_terms.specs.Atoms.{with_number, with_numbers, WordTerms, AddsAtoms}
use Rattle.rules_clauses.specs.Marks.{NumbersBelow}
use Rattle.ground_terms.specs.Keys.{IsKey, with_key, word_of, parts_of, term_at, tree_of_key, trees}
use Rattle.util_interner.specs.KeyLists.{key_at}
use Rattle.statement.specs.Meaning.{atom1, atom2}
use Rattle.ground_terms.proofs.AtomLemmas.{
  front_itself,
  front_trans,
  front_length,
  trees_front,
  term_front,
  terms_front,
  below_more,
  atoms_front,
  atoms_append,
  one_atom,
  grown_itself,
  grown_more,
}
use Rattle.ground_terms.proofs.KeyTrees.{tree_of_number, length_trees}

pub key_front : (keys : List (List ℕ)) (key : List ℕ) (all : List (List ℕ)) → all ≡ with_key keys key → BeginsWith keys all
key_front keys key all e = subst (λ (ks : List (List ℕ)). BeginsWith keys ks) (sym e) (go (is_name_in key keys))
  where
    go : (b : Bool) → BeginsWith keys (cond b keys (keys ++ key ∷ []))
    go true = front_itself keys
    go false = (key ∷ [], refl)

pub with_both : (ns ms ks : List ℕ) → with_numbers (with_numbers ns ms) ks ≡ with_numbers ns (ms ++ ks)
with_both ns [] ks = refl
with_both ns (m ∷ ms) ks = with_both (with_number ns m) ms ks

below_parts : (many n : ℕ) (key : List ℕ) → IsKey many n key → NumbersBelow n (parts_of key)
below_parts many n [] h = absurd h
below_parts many n (w ∷ ps) h = h.1

pub added_one : (words : List (List ℕ)) (old new : Held) (before after key : List ℕ) (k : ℕ) (x : Atom)
    → IsKey (length old.sizes) (length old.keys) key → new.keys ≡ with_key old.keys key → new.sizes ≡ old.sizes
    → AreNumbered (length new.sizes) new.keys → k < length new.keys → key_at new.keys k ≡ key → after ≡ with_number before k
    → WordTerms words old → tree_of x ≡ tree_of_key words (trees words old.keys) key → AddsAtoms words old new before after (x ∷ [])
added_one words old new before after key k x is_key keys sizes numbered inside is same t tree =
    let front = key_front old.keys key new.keys keys in
    let many : length new.sizes ≡ length words = ap length (sizes ∙ sym t.sizes) ∙ length-map words (λ (w : List ℕ). cut (length w)) in
    let own : AreNumbered (length words) new.keys = subst (λ (n : ℕ). AreNumbered n new.keys) many numbered in
    let long = length_trees words [] new.keys in
    let long_old = length_trees words [] old.keys in
    let below : NumbersBelow (length (trees words old.keys)) (parts_of key)
    = below_more (length old.keys) (length (trees words old.keys)) (parts_of key) (omega (arith, long_old))
    (below_parts (length old.sizes) (length old.keys) key is_key) in
    let parts = terms_front (trees words old.keys) (trees words new.keys) (trees_front words old.keys new.keys front) (parts_of key) below in
    let made : term_at (trees words new.keys) k ≡ tree_of x
    = tree_of_number words (length words) new.keys own.keyed k inside ∙ ap (tree_of_key words (trees words new.keys)) is
    ∙ ap (λ (ts : List Tree). tree_at (word_at words (word_of key)) (trees_of ts)) parts ∙ sym tree in
    record {
      grown = record { terms = record { numbered = own; sizes = t.sizes ∙ sym sizes }; front = front };
      numbers = k ∷ [];
      same = same;
      are = one_atom (trees words new.keys) k x (omega (arith, inside, long)) made;
    }

-- the loop over terms
pub record AddingEach (old now : Held) (before after : List ℕ) (atom : List (List ℕ) → Tree → Atom) (all rest : List ℕ) : Type 0 where
  pub front : BeginsWith old.keys now.keys
  pub sizes : now.sizes ≡ old.sizes
  pub below : NumbersBelow (length old.keys) rest
  pub adds : (words : List (List ℕ)) → WordTerms words old → (done : List Atom) × (AddsAtoms words old now before after done
      × (map (atom words) (map (term_at (trees words old.keys)) all) ≡ done ++ map (atom words) (map (term_at (trees words old.keys)) rest)))

pub each_begins : (held : Held) (atoms : List ℕ) (atom : List (List ℕ) → Tree → Atom) (all : List ℕ) → NumbersBelow (length held.keys) all
    → AddingEach held held atoms atoms atom all all
each_begins held atoms atom all b = record {
  front = front_itself held.keys;
  sizes = refl;
  below = b;
  adds = λ words t. ([], (record { grown = grown_itself words held t; numbers = []; same = refl; are = record { below = tt; same = refl } }, refl));
}

pub each_next : (old now new : Held) (before after more : List ℕ) (atom : List (List ℕ) → Tree → Atom) (all : List ℕ) (n : ℕ) (rest key : List ℕ)
    → AddingEach old now before after atom all (n ∷ rest) → BeginsWith now.keys new.keys → new.sizes ≡ now.sizes
    → ((words : List (List ℕ)) → WordTerms words old → BeginsWith old.keys now.keys
    → tree_of (atom words (term_at (trees words old.keys) n)) ≡ tree_of_key words (trees words now.keys) key)
    → ((words : List (List ℕ)) → WordTerms words now → (x : Atom) → tree_of x ≡ tree_of_key words (trees words now.keys) key
    → AddsAtoms words now new after more (x ∷ []))
    → AddingEach old new before more atom all rest
each_next old now new before after more atom all n rest key s front sizes tree adds = record {
  front = front_trans old.keys now.keys new.keys s.front front;
  sizes = sizes ∙ s.sizes;
  below = s.below.1;
  adds = λ words t.
      let d = s.adds words t in
      let here = d.1.0 in
      let x = atom words (term_at (trees words old.keys) n) in
      let next = adds words here.grown.terms x (tree words t s.front) in (
        d.0 ++ x ∷ [],
        (
          record {
            grown = grown_more words old now new here.grown next.grown;
            numbers = here.numbers ++ next.numbers;
            same = next.same ∙ ap (λ (ns : List ℕ). with_numbers ns next.numbers) here.same ∙ with_both before here.numbers next.numbers;
            are = atoms_append (trees words new.keys) here.numbers next.numbers d.0 (x ∷ [])
                (atoms_front (trees words now.keys) (trees words new.keys) here.numbers d.0 (trees_front words now.keys new.keys next.grown.front)
                here.are) next.are;
          },
          d.1.1 ∙ sym (append_assoc d.0 (x ∷ []) (map (atom words) (map (term_at (trees words old.keys)) rest))),
        ),
      );
}

append_nil : {A : Type 0} (xs : List A) → xs ++ [] ≡ xs
append_nil [] = refl
append_nil {A} (x ∷ xs) = ap (λ (l : List A). x ∷ l) (append_nil xs)

pub each_ends : (old now : Held) (before after : List ℕ) (atom : List (List ℕ) → Tree → Atom) (all : List ℕ)
    → AddingEach old now before after atom all []
    → (words : List (List ℕ)) → WordTerms words old
    → AddsAtoms words old now before after (map (atom words) (map (term_at (trees words old.keys)) all))
each_ends old now before after atom all s words t =
    let d = s.adds words t in
    subst (λ (xs : List Atom). AddsAtoms words old now before after xs) (sym (d.1.1 ∙ append_nil d.0)) d.1.0

-- the next term
pub number_next : (all xs : List ℕ) (i : ℕ) → xs ≡ all → i < length xs → drop i all ≡ get_or xs i 0 ∷ drop (i + 1) all
number_next all xs i e h =
    let n : suc i ≡ i + 1 = omega arith in
    subst (λ (ys : List ℕ). drop i ys ≡ get_or xs i 0 ∷ drop (i + 1) ys) e (drop-cons xs i 0 h ∙ ap (λ (j : ℕ). get_or xs i 0 ∷ drop j xs) n)

pub fits_key : (old now : Held) (before after : List ℕ) (atom : List (List ℕ) → Tree → Atom) (all : List ℕ) (n : ℕ) (rest : List ℕ) (w : ℕ)
    (ps : List ℕ)
    → AddingEach old now before after atom all (n ∷ rest) → w < length old.sizes → NumbersBelow (length old.keys) ps
    → IsKey (length now.sizes) (length now.keys) (w ∷ ps)
fits_key old now before after atom all n rest w ps s h b =
    let e = ap length s.sizes in
    (omega (arith, h, e), below_more (length old.keys) (length now.keys) ps (front_length old.keys now.keys s.front) b)

pub single_tree : (words : List (List ℕ)) (old now : Held) (w n : ℕ) → n < length old.keys → BeginsWith old.keys now.keys
    → tree_of (atom1 (word_at words w) (term_at (trees words old.keys) n)) ≡ tree_of_key words (trees words now.keys) (w ∷ (n ∷ []))
single_tree words old now w n h f =
    let long = length_trees words [] old.keys in
    ap (λ (t : Tree). tree_of (atom1 (word_at words w) t))
    (sym (term_front (trees words old.keys) (trees words now.keys) (trees_front words old.keys now.keys f) n (omega (arith, h, long))))

pub pair_tree : (words : List (List ℕ)) (old now : Held) (w r n : ℕ) → r < length old.keys → n < length old.keys → BeginsWith old.keys now.keys
    → tree_of (atom2 (word_at words w) (term_at (trees words old.keys) r) (term_at (trees words old.keys) n)) ≡ tree_of_key words
    (trees words now.keys) (w ∷ (r ∷ (n ∷ [])))
pair_tree words old now w r n k h f =
    let long = length_trees words [] old.keys in
    let front = trees_front words old.keys now.keys f in
    ap (λ (t : Tree). tree_of (atom2 (word_at words w) t (term_at (trees words old.keys) n)))
    (sym (term_front (trees words old.keys) (trees words now.keys) front r (omega (arith, k, long))))
    ∙ ap (λ (t : Tree). tree_of (atom2 (word_at words w) (term_at (trees words now.keys) r) t))
    (sym (term_front (trees words old.keys) (trees words now.keys) front n (omega (arith, h, long))))
