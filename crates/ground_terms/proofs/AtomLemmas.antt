-- Atoms by the numbers of terms, while terms grow.
use Rattle.std.proofs.Common.{
  ℕ,
  ◌<◌,
  ◌≤◌,
  Bool,
  true,
  false,
  cond,
  ◌≡◌,
  List,
  [],
  ◌∷◌,
  ◌++◌,
  length,
  length-append,
  map,
  nat_eq,
  eqb-true,
  append_assoc,
  refl,
  sym,
  ap,
  subst,
  ◌∙◌,
  arith,
}
use Rattle.std.specs.List.{list_any}
use Rattle.std.proofs.lemmas.Bool.Decides.{nat_tests}
use Rattle.std.proofs.lemmas.List.{map-append}
use Rattle.statement.specs.Tree.{Tree}
use Rattle.statement.specs.Clause.{Atom, atom_eq, tree_of}
use Rattle.rules_profile.proofs.Facts.{atom_eq_yes, atom_eq_self}
use Rattle.statement.specs.Printed.{first_place}
use Rattle.rules_clauses.specs.Marks.{NumbersBelow}
use Rattle.ground_terms.specs.Keys.{term_at, AreDifferentTerms, trees_behind, trees, tree_of_key}
use Rattle.statement.specs.Listing.{is_atom_in, with_atoms}
use Rattle.statement.specs.Kept.{number_of}
use Rattle.rules_clauses.specs.Numbers.{BeginsWith}
use Rattle.ground_terms.specs.Atoms.{AreAtoms, with_number, with_numbers, WordTerms, HasGrown}
use Rattle.ground_terms.proofs.KeyTrees.{parts_of_tree, term_before}
use Rattle.ground_terms.specs.Arena.{Held}

-- A list and what begins it.

append_nil : {A : Type 0} (xs : List A) → xs ++ [] ≡ xs
append_nil [] = refl
append_nil (x ∷ xs) = ap (λ (l : List _). x ∷ l) (append_nil xs)

pub front_itself : {A : Type 0} (xs : List A) → BeginsWith xs xs
front_itself xs = ([], sym (append_nil xs))

pub front_trans : {A : Type 0} (xs ys zs : List A) → BeginsWith xs ys → BeginsWith ys zs → BeginsWith xs zs
front_trans {A} xs ys zs f g = (f.0 ++ g.0, g.1 ∙ ap (λ (l : List A). l ++ g.0) f.1 ∙ append_assoc xs f.0 g.0)

pub front_length : {A : Type 0} (xs all : List A) → BeginsWith xs all → length xs ≤ length all
front_length xs all f = let e = ap length f.1 ∙ length-append xs f.0 in omega arith

-- the trees of more keys begin with those of the keys
trees_from : (words : List (List ℕ)) (done : List Tree) (ks : List (List ℕ)) → BeginsWith done (trees_behind words done ks)
trees_from words done [] = front_itself done
trees_from words done (k ∷ ks) =
    let f = trees_from words (done ++ tree_of_key words done k ∷ []) ks in
    (tree_of_key words done k ∷ f.0, f.1 ∙ append_assoc done (tree_of_key words done k ∷ []) f.0)

trees_append : (words : List (List ℕ)) (done : List Tree) (ks more : List (List ℕ))
    → trees_behind words done (ks ++ more) ≡ trees_behind words (trees_behind words done ks) more
trees_append words done [] more = refl
trees_append words done (k ∷ ks) more = trees_append words (done ++ tree_of_key words done k ∷ []) ks more

pub trees_front : (words keys all : List (List ℕ)) → BeginsWith keys all → BeginsWith (trees words keys) (trees words all)
trees_front words keys all f =
    let g = trees_from words (trees words keys) f.0 in
    (g.0, ap (trees words) f.1 ∙ trees_append words [] keys f.0 ∙ g.1)

-- Numbers below the length of a front.

pub below_more : (m n : ℕ) (xs : List ℕ) → m ≤ n → NumbersBelow m xs → NumbersBelow n xs
below_more m n [] h b = tt
below_more m n (x ∷ xs) h b = (let less = b.0 in omega (arith, h, less), below_more m n xs h b.1)

pub below_append : (n : ℕ) (xs ys : List ℕ) → NumbersBelow n xs → NumbersBelow n ys → NumbersBelow n (xs ++ ys)
below_append n [] ys b c = c
below_append n (x ∷ xs) ys b c = (b.0, below_append n xs ys b.1 c)

pub term_front : (terms all : List Tree) → BeginsWith terms all → (n : ℕ) → n < length terms → term_at all n ≡ term_at terms n
term_front terms all f n h = ap (λ (ts : List Tree). term_at ts n) f.1 ∙ term_before terms f.0 n h

pub terms_front : (terms all : List Tree) → BeginsWith terms all → (ns : List ℕ) → NumbersBelow (length terms) ns
    → map (term_at all) ns ≡ map (term_at terms) ns
terms_front terms all f [] b = refl
terms_front terms all f (n ∷ ns) b =
    let e = term_front terms all f n b.0 in
    let r = terms_front terms all f ns b.1 in cc

-- Atoms.

-- an atom is known by its tree
pub tree_once : (x y : Atom) → tree_of x ≡ tree_of y → x ≡ y
tree_once x y e = let s = parts_of_tree x.word y.word x.terms y.terms e in λ i. record { word = s.word i; terms = s.parts i }

pub atoms_front : (terms all : List Tree) (ns : List ℕ) (xs : List Atom) → BeginsWith terms all → AreAtoms terms ns xs → AreAtoms all ns xs
atoms_front terms all ns xs f a = record {
  below = below_more (length terms) (length all) ns (front_length terms all f) a.below;
  same = terms_front terms all f ns a.below ∙ a.same;
}

pub atoms_append : (terms : List Tree) (ns ms : List ℕ) (xs ys : List Atom) → AreAtoms terms ns xs → AreAtoms terms ms ys
    → AreAtoms terms (ns ++ ms) (xs ++ ys)
atoms_append terms ns ms xs ys a b = record {
  below = below_append (length terms) ns ms a.below b.below;
  same = map-append (term_at terms) ns ms ∙ ap (λ (l : List Tree). l ++ map (term_at terms) ms) a.same
      ∙ ap (λ (l : List Tree). map tree_of xs ++ l) b.same ∙ sym (map-append tree_of xs ys);
}

pub one_atom : (terms : List Tree) (n : ℕ) (x : Atom) → n < length terms → term_at terms n ≡ tree_of x → AreAtoms terms (n ∷ []) (x ∷ [])
one_atom terms n x h e = record { below = (h, tt); same = ap (λ (t : Tree). t ∷ []) e }

pub record FirstAtom (terms : List Tree) (n : ℕ) (ns : List ℕ) (x : Atom) (xs : List Atom) : Type 0 where
  pub inside : n < length terms
  pub first : term_at terms n ≡ tree_of x
  pub rest : AreAtoms terms ns xs

pub first_atom : (terms : List Tree) (n : ℕ) (ns : List ℕ) (x : Atom) (xs : List Atom) → AreAtoms terms (n ∷ ns) (x ∷ xs) → FirstAtom terms n ns x xs
first_atom terms n ns x xs a =
    let e = a.same in
    record { inside = a.below.0; first = cc; rest = record { below = a.below.1; same = cc } }

pub same_test : (a b : Bool) → (a ≡ true → b ≡ true) → (b ≡ true → a ≡ true) → a ≡ b
same_test true b f g = sym (f refl)
same_test false true f g = g refl
same_test false false f g = refl

pub nat_eq_self : (n : ℕ) → nat_eq n n ≡ true
nat_eq_self n = grind (arith, nat_tests)

module _ (terms : List Tree) (differ : AreDifferentTerms terms) where
  -- terms are the same exactly where the atoms are
  test_same : (n m : ℕ) (x y : Atom) → n < length terms → m < length terms → term_at terms n ≡ tree_of x → term_at terms m ≡ tree_of y
      → nat_eq n m ≡ atom_eq x y
  test_same n m x y h k e f = same_test (nat_eq n m) (atom_eq x y) there back
    where
      there : nat_eq n m ≡ true → atom_eq x y ≡ true
      there t =
          let same : n ≡ m = eqb-true n m t in
          let one : x ≡ y = tree_once x y (sym e ∙ ap (term_at terms) same ∙ f) in
          subst (λ (z : Atom). atom_eq x z ≡ true) one (atom_eq_self x)

      back : atom_eq x y ≡ true → nat_eq n m ≡ true
      back t =
          let same : n ≡ m = differ n m h k (e ∙ ap tree_of (atom_eq_yes x y t) ∙ sym f) in
          subst (λ (i : ℕ). nat_eq n i ≡ true) same (nat_eq_self n)

  -- an atom is there exactly where its number is
  pub in_same : (n : ℕ) (x : Atom) → n < length terms → term_at terms n ≡ tree_of x → (ns : List ℕ) (xs : List Atom) → AreAtoms terms ns xs
      → list_any (nat_eq n) ns ≡ is_atom_in x xs
  in_same n x h e [] [] a = refl
  in_same n x h e [] (y ∷ ys) a = let f = a.same in absurd cc
  in_same n x h e (m ∷ ms) [] a = let f = a.same in absurd cc
  in_same n x h e (m ∷ ms) (y ∷ ys) a =
      let f = first_atom terms m ms y ys a in
      let s = test_same n m x y h f.inside e f.first in
      let r = in_same n x h e ms ys f.rest in cc

  -- and it has the same place
  pub place_same : (n : ℕ) (x : Atom) → n < length terms → term_at terms n ≡ tree_of x → (ns : List ℕ) (xs : List Atom) → AreAtoms terms ns xs
      → first_place (nat_eq n) ns ≡ number_of x xs
  place_same n x h e [] [] a = refl
  place_same n x h e [] (y ∷ ys) a = let f = a.same in absurd cc
  place_same n x h e (m ∷ ms) [] a = let f = a.same in absurd cc
  place_same n x h e (m ∷ ms) (y ∷ ys) a =
      let f = first_atom terms m ms y ys a in
      let s = test_same n m x y h f.inside e f.first in
      let r = place_same n x h e ms ys f.rest in cc

  -- numbering further atoms, each once
  pub with_same : (ns : List ℕ) (xs : List Atom) → AreAtoms terms ns xs → (ms : List ℕ) (ys : List Atom) → AreAtoms terms ms ys
      → AreAtoms terms (with_numbers ns ms) (with_atoms xs ys)
  with_same ns xs a [] [] b = a
  with_same ns xs a [] (y ∷ ys) b = let f = b.same in absurd cc
  with_same ns xs a (m ∷ ms) [] b = let f = b.same in absurd cc
  with_same ns xs a (m ∷ ms) (y ∷ ys) b =
      let f = first_atom terms m ms y ys b in
      with_same (with_number ns m) (cond (is_atom_in y xs) xs (xs ++ y ∷ []))
      (go f (list_any (nat_eq m) ns) (is_atom_in y xs) (in_same m y f.inside f.first ns xs a)) ms ys f.rest
    where
      go : FirstAtom terms m ms y ys → (s t : Bool) → s ≡ t → AreAtoms terms (cond s ns (ns ++ m ∷ [])) (cond t xs (xs ++ y ∷ []))
      go f true true e = a
      go f false false e = atoms_append terms ns (m ∷ []) xs (y ∷ []) a (one_atom terms m y f.inside f.first)
      go f true false e = absurd cc
      go f false true e = absurd cc

-- Terms grow.

pub grown_itself : (words : List (List ℕ)) (held : Held) → WordTerms words held → HasGrown words held held
grown_itself words held t = record { terms = t; front = front_itself held.keys }

pub grown_more : (words : List (List ℕ)) (a b c : Held) → HasGrown words a b → HasGrown words b c → HasGrown words a c
grown_more words a b c f g = record { terms = g.terms; front = front_trans a.keys b.keys c.keys f.front g.front }
