-- How many atoms have no effect on play.
use Rattle.std.proofs.Common.{
  ℕ,
  zero,
  suc,
  ◌<◌,
  ◌≤◌,
  Bool,
  true,
  false,
  cond,
  ◌&&◌,
  ◌||◌,
  ◌==◌,
  ◌≡◌,
  List,
  [],
  ◌∷◌,
  length,
  map,
  nat_eq,
  eqb-true,
  refl,
  sym,
  ap,
  subst,
  ◌∙◌,
  arith,
  get_or,
}
use Rattle.std.specs.Prelude.{not, filter, slice_index_or}
use Rattle.std.specs.List.{list_any}
use Rattle.rules.specs.declared.rule_set.Keywords.{Keywords}
use Rattle.statement.specs.Tree.{Tree, trees_of, name_eq, tree_eq}
use Rattle.kif.proofs.Facts.{name_eq_yes, name_eq_self, tree_eq_yes, tree_eq_self}
use Rattle.statement.specs.Clause.{Atom, Alternative, tree_of}
use Rattle.rules.specs.RuleSets.{IsNameNumber, AreKeywords}
use Rattle.statement.specs.Words.{w_init, w_next, w_legal}
use Rattle.ground_terms.specs.Dropping.{is_input_in, is_dropped_in, dropped_in, AreListsBelow, AreShown}
use Rattle.ground_terms.specs.Atoms.{AreAtoms}
use Rattle.statement.specs.Printed.{first_place}
use Rattle.rules_clauses.specs.Marks.{NumbersBelow}
use Rattle.rules_clauses.specs.Numbers.{word_at, NamesDiffer}
use Rattle.ground_terms.specs.Keys.{word_of, parts_of, term_at, trees, IsKey, AreKeys}
use Rattle.util_interner.specs.KeyLists.{key_at}
use Rattle.statement.specs.Listing.{role_list, base_list, input_list}
use Rattle.statement.specs.Profile.{is_tree_in}
use Rattle.statement.specs.GoalsAndMoves.{is_dropped}
use Rattle.ground_terms.proofs.AtomLemmas.{same_test, nat_eq_self}
use Rattle.ground_terms.proofs.KeyTrees.{parts_of_tree, tree_of_number, different, length_trees}

pub behind_all : {S : Type 0} (items : S → List ℕ) (iss : List S) (k : ℕ) → length iss ≤ k → slice_index_or (map items iss) k [] ≡ []
behind_all items [] k h = refl
behind_all items (s ∷ iss) zero h = absurd (let bad : ⊥ = omega (arith, h) in bad)
behind_all items (s ∷ iss) (suc k) h = behind_all items iss k (omega (arith, h))

pub list_here : {S : Type 0} (items : S → List ℕ) (iss : List S) (k : ℕ) (s : S) → k < length iss → s ≡ get_or iss k s
    → slice_index_or (map items iss) k [] ≡ items s
list_here items [] k s h e = absurd (let bad : ⊥ = omega (arith, h) in bad)
list_here items (i ∷ iss) zero s h e = ap items (sym e)
list_here items (i ∷ iss) (suc k) s h e = list_here items iss k s (omega (arith, h)) e

-- the role's place leads to its inputs
pub input_placed : {S : Type 0} (items : S → List ℕ) (iss : List S) (roles : List ℕ) (r m k : ℕ) (s : S) → k ≡ first_place (nat_eq r) roles
    → k < length iss → s ≡ get_or iss k s
    → list_any (nat_eq m) (items s) ≡ is_input_in roles (map items iss) r m
input_placed items iss roles r m k s e h here =
    ap (list_any (nat_eq m)) (sym (list_here items iss k s h here)) ∙ ap (λ (j : ℕ). list_any (nat_eq m) (slice_index_or (map items iss) j [])) e

pub no_input : {S : Type 0} (items : S → List ℕ) (iss : List S) (roles : List ℕ) (r m k : ℕ) → k ≡ first_place (nat_eq r) roles → length iss ≤ k
    → false ≡ is_input_in roles (map items iss) r m
no_input items iss roles r m k e past =
    ap (list_any (nat_eq m)) (sym (behind_all items iss k past))
    ∙ ap (λ (j : ℕ). list_any (nat_eq m) (slice_index_or (map items iss) j [])) e

-- What the tests are of keys that have no such word or number of parts.

none_missed : (a b : Bool) → false ≡ ((a && false) || (b && false))
none_missed true true = refl
none_missed true false = refl
none_missed false true = refl
none_missed false false = refl

one_missed : (a b c l : Bool) → ((a || b) && not c) ≡ ((((a && true) || (b && true)) && not c) || ((l && false) && false))
one_missed true b true true = refl
one_missed true b true false = refl
one_missed true b false l = refl
one_missed false true true true = refl
one_missed false true true false = refl
one_missed false true false l = refl
one_missed false false c true = refl
one_missed false false c false = refl

two_missed : (a b l d : Bool) → (l && not d) ≡ ((((a && false) || (b && false)) && false) || ((l && true) && not d))
two_missed true true true d = refl
two_missed true true false d = refl
two_missed true false true d = refl
two_missed true false false d = refl
two_missed false true true d = refl
two_missed false true false d = refl
two_missed false false true d = refl
two_missed false false false d = refl

module _ (words : List (List ℕ)) (differ : NamesDiffer words) where
  word_same : (v k : ℕ) (word : List ℕ) → v < length words → IsNameNumber words k word → (v == k) ≡ name_eq (word_at words v) word
  word_same v k word h n = same_test (v == k) (name_eq (word_at words v) word) there back
    where
      there : (v == k) ≡ true → name_eq (word_at words v) word ≡ true
      there e =
          let same : v ≡ k = eqb-true v k e in
          let w : word_at words v ≡ word = ap (word_at words) same ∙ n.same in
          subst (λ (l : List ℕ). name_eq (word_at words v) l ≡ true) w (name_eq_self (word_at words v))

      back : name_eq (word_at words v) word ≡ true → (v == k) ≡ true
      back e =
          let same : v ≡ k = differ v k h n.inside (name_eq_yes (word_at words v) word e ∙ sym n.same) in
          subst (λ (m : ℕ). (v == m) ≡ true) same (nat_eq_self v)

  module _ (keys : List (List ℕ)) (keyed : AreKeys (length words) keys) where
    term_same : (t r : ℕ) → t < length (trees words keys) → r < length (trees words keys)
        → nat_eq t r ≡ tree_eq (term_at (trees words keys) t) (term_at (trees words keys) r)
    term_same t r h k = same_test (nat_eq t r) (tree_eq (term_at (trees words keys) t) (term_at (trees words keys) r)) there back
      where
        there : nat_eq t r ≡ true → tree_eq (term_at (trees words keys) t) (term_at (trees words keys) r) ≡ true
        there e = subst (λ (n : ℕ). tree_eq (term_at (trees words keys) t) (term_at (trees words keys) n) ≡ true) (eqb-true t r e)
            (tree_eq_self (term_at (trees words keys) t))

        back : tree_eq (term_at (trees words keys) t) (term_at (trees words keys) r) ≡ true → nat_eq t r ≡ true
        back e = subst (λ (n : ℕ). nat_eq t n ≡ true)
            (different words differ keys keyed t r h k (tree_eq_yes (term_at (trees words keys) t) (term_at (trees words keys) r) e)) (nat_eq_self t)

    -- a term is among some exactly where its number is
    among_same : (t : ℕ) → t < length (trees words keys) → (ns : List ℕ) → NumbersBelow (length (trees words keys)) ns
        → list_any (nat_eq t) ns ≡ is_tree_in (term_at (trees words keys) t) (map (term_at (trees words keys)) ns)
    among_same t h [] b = refl
    among_same t h (n ∷ ns) b =
        let first = term_same t n h b.0 in
        let rest = among_same t h ns b.1 in cc

    input_same : (r m : ℕ) → r < length (trees words keys) → m < length (trees words keys)
        → (f : Tree → List Tree) (roles : List ℕ) (inputs : List (List ℕ))
        → NumbersBelow (length (trees words keys)) roles → AreListsBelow (length (trees words keys)) inputs
        → map (λ ns. map (term_at (trees words keys)) ns) inputs ≡ map f (map (term_at (trees words keys)) roles)
        → is_input_in roles inputs r m ≡ (is_tree_in (term_at (trees words keys) r) (map (term_at (trees words keys)) roles) && is_tree_in
        (term_at (trees words keys) m) (f (term_at (trees words keys) r)))
    input_same r m h k f [] [] b c e = refl
    input_same r m h k f [] (i ∷ is) b c e = absurd cc
    input_same r m h k f (n ∷ ns) [] b c e = absurd cc
    input_same r m h k f (n ∷ ns) (i ∷ is) b c e = go (nat_eq r n) refl (term_same r n h b.0) (input_same r m h k f ns is b.1 c.1 rest)
      where
        rest : map (λ ns. map (term_at (trees words keys)) ns) is ≡ map f (map (term_at (trees words keys)) ns)
        rest = cc

        first : map (term_at (trees words keys)) i ≡ f (term_at (trees words keys) n)
        first = cc

        go : (t : Bool) → nat_eq r n ≡ t → nat_eq r n ≡ tree_eq (term_at (trees words keys) r) (term_at (trees words keys) n)
            → is_input_in ns is r m ≡ (is_tree_in (term_at (trees words keys) r) (map (term_at (trees words keys)) ns) && is_tree_in
            (term_at (trees words keys) m) (f (term_at (trees words keys) r)))
            → list_any (nat_eq m) (slice_index_or (i ∷ is) (cond (nat_eq r n) zero (suc (first_place (nat_eq r) ns))) [])
            ≡ ((tree_eq (term_at (trees words keys) r) (term_at (trees words keys) n) || is_tree_in (term_at (trees words keys) r)
            (map (term_at (trees words keys)) ns)) && is_tree_in (term_at (trees words keys) m) (f (term_at (trees words keys) r)))
        go true z s more =
            let same : r ≡ n = eqb-true r n z in
            let lists : map (term_at (trees words keys)) i ≡ f (term_at (trees words keys) r) = first
            ∙ ap (λ (j : ℕ). f (term_at (trees words keys) j)) (sym same) in
            let test : tree_eq (term_at (trees words keys) r) (term_at (trees words keys) n) ≡ true = sym s ∙ z in
            let there = among_same m k i c.0 ∙ ap (is_tree_in (term_at (trees words keys) m)) lists in
            rw z (rw test there)
        go false z s more =
            let test : tree_eq (term_at (trees words keys) r) (term_at (trees words keys) n) ≡ false = sym s ∙ z in
            rw z (rw test more)

    module _ (named : Keywords) (k : AreKeywords words named) (rules : List Alternative) (bases roles : List ℕ) (inputs : List (List ℕ))
        (shown : AreShown rules (trees words keys) bases roles inputs) where
      base_missed : (t : ℕ) → t < length (trees words keys) → list_any (nat_eq t) bases ≡ is_tree_in (term_at (trees words keys) t)
          (base_list rules)
      base_missed t h = among_same t h bases shown.bases_in ∙ ap (is_tree_in (term_at (trees words keys) t)) shown.bases_are

      input_missed : (r m : ℕ) → r < length (trees words keys) → m < length (trees words keys)
          → is_input_in roles inputs r m ≡ (is_tree_in (term_at (trees words keys) r) (role_list rules) && is_tree_in
          (term_at (trees words keys) m) (input_list rules (term_at (trees words keys) r)))
      input_missed r m h l =
          input_same r m h l (input_list rules) roles inputs shown.roles_in shown.inputs_in
          (shown.inputs_are ∙ ap (map (input_list rules)) (sym shown.roles_are))
          ∙ ap (λ (rs : List Tree). is_tree_in (term_at (trees words keys) r) rs && is_tree_in (term_at (trees words keys) m)
          (input_list rules (term_at (trees words keys) r))) shown.roles_are

      by_key : (key : List ℕ) (n : ℕ) → n ≤ length (trees words keys) → IsKey (length words) n key
          → is_dropped_in named bases roles inputs key ≡ is_dropped rules
          (record { word = word_at words (word_of key); terms = trees_of (map (term_at (trees words keys)) (parts_of key)) })
      by_key [] n m h = absurd h
      by_key (v ∷ []) n m h = none_missed _ _
      by_key (v ∷ (t ∷ [])) n m h =
          let less = h.1.0 in
          let a = word_same v named.init w_init h.0 k.init in
          let b = word_same v named.next w_next h.0 k.next in
          let c = base_missed t (omega (arith, less, m)) in
          ap (λ (s : Bool). (s || (v == named.next)) && not (list_any (nat_eq t) bases)) a
          ∙ ap (λ (s : Bool). (name_eq (word_at words v) w_init || s) && not (list_any (nat_eq t) bases)) b
          ∙ ap (λ (s : Bool). (name_eq (word_at words v) w_init || name_eq (word_at words v) w_next) && not s) c
          ∙ one_missed (name_eq (word_at words v) w_init) (name_eq (word_at words v) w_next)
          (is_tree_in (term_at (trees words keys) t) (base_list rules)) (name_eq (word_at words v) w_legal)
      by_key (v ∷ (t ∷ (u ∷ []))) n m h =
          let less = h.1.0 in
          let more = h.1.1.0 in
          let a = word_same v named.legal w_legal h.0 k.legal in
          let c = input_missed t u (omega (arith, less, m)) (omega (arith, more, m)) in
          ap (λ (s : Bool). s && not (is_input_in roles inputs t u)) a
          ∙ ap (λ (s : Bool). name_eq (word_at words v) w_legal && not s) c
          ∙ two_missed (name_eq (word_at words v) w_init) (name_eq (word_at words v) w_next) (name_eq (word_at words v) w_legal)
          (is_tree_in (term_at (trees words keys) t) (role_list rules) && is_tree_in (term_at (trees words keys) u)
          (input_list rules (term_at (trees words keys) t)))
      by_key (v ∷ (t ∷ (u ∷ (x ∷ xs)))) n m h = none_missed _ _

      one_same : (n : ℕ) (x : Atom) → n < length keys → term_at (trees words keys) n ≡ tree_of x
          → is_dropped_in named bases roles inputs (key_at keys n) ≡ is_dropped rules x
      one_same n x h e =
          let long = length_trees words [] keys in
          let s = parts_of_tree (word_at words (word_of (key_at keys n))) x.word
          (trees_of (map (term_at (trees words keys)) (parts_of (key_at keys n)))) x.terms (sym (tree_of_number words (length words) keys keyed n h)
          ∙ e) in
          let same : ◌≡◌ {A = Atom} (record {
            word = word_at words (word_of (key_at keys n));
            terms = trees_of (map (term_at (trees words keys)) (parts_of (key_at keys n)));
          }) x = λ i. record { word = s.word i; terms = s.parts i }
          in
          by_key (key_at keys n) n (omega (arith, h, long)) (keyed.each n h) ∙ ap (is_dropped rules) same

      pub dropped_same : (ns : List ℕ) (xs : List Atom) → AreAtoms (trees words keys) ns xs
          → dropped_in keys named bases roles inputs ns ≡ length (filter (is_dropped rules) xs)
      dropped_same [] [] a = refl
      dropped_same [] (x ∷ xs) a = let e = a.same in absurd cc
      dropped_same (n ∷ ns) [] a = let e = a.same in absurd cc
      dropped_same (n ∷ ns) (x ∷ xs) a =
          let e = a.same in
          let inside = a.below.0 in
          let long = length_trees words [] keys in
          let first : term_at (trees words keys) n ≡ tree_of x = cc in
          let here = one_same n x (omega (arith, inside, long)) first in
          let rest = dropped_same ns xs (record { below = a.below.1; same = cc }) in
          counted (is_dropped_in named bases roles inputs (key_at keys n)) (is_dropped rules x)
          (filter (λ (j : ℕ). is_dropped_in named bases roles inputs (key_at keys j)) ns) (filter (is_dropped rules) xs) here rest
        where
          counted : (s t : Bool) (ms : List ℕ) (ys : List Atom) → s ≡ t → length ms ≡ length ys
              → length (cond s (n ∷ ms) ms) ≡ length (cond t (x ∷ ys) ys)
          counted true true ms ys f g = ap suc g
          counted false false ms ys f g = g
          counted true false ms ys f g = absurd cc
          counted false true ms ys f g = absurd cc
