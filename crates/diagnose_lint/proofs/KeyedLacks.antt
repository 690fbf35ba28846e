-- What keys lack is what their atoms lack.
use Rattle.std.proofs.Common.{
  ℕ,
  ◌<◌,
  ◌≤◌,
  Bool,
  true,
  false,
  cond,
  ◌&&◌,
  ◌||◌,
  ◌==◌,
  ◌≡◌,
  List,
  [],
  ◌∷◌,
  length,
  map,
  nat_eq,
  nat_lt,
  eqb-true,
  refl,
  sym,
  ap,
  subst,
  ◌∙◌,
  arith,
}
use Rattle.std.specs.Prelude.{not}
use Rattle.std.specs.List.{list_any}
use Rattle.std.proofs.lemmas.Bool.Decides.{nat_tests}
use Rattle.statement.specs.Tree.{Tree, Trees, no_trees, tree, trees_of, name_eq, tree_eq}
use Rattle.statement.specs.Clause.{Atom, Alternative, tree_of, tree_at}
use Rattle.statement.specs.Words.{w_init, w_next, w_legal, w_goal}
use Rattle.statement.specs.Profile.{is_tree_in}
use Rattle.statement.specs.Listing.{role_list}
use Rattle.statement.specs.GoalsAndMoves.{is_dropped}
use Rattle.kif.proofs.Facts.{name_eq_self, tree_eq_yes, tree_eq_self}
use Rattle.rules_clauses.specs.Marks.{NumbersBelow}
use Rattle.rules_clauses.specs.Numbers.{word_at, NamesDiffer}
use Rattle.util_interner.specs.KeyLists.{key_at}
use Rattle.rules.specs.declared.rule_set.Keywords.{Keywords}
use Rattle.rules.specs.RuleSets.{AreKeywords}
use Rattle.ground_terms.specs.Dropping.{AreShown, is_dropped_in}
use Rattle.ground_terms.specs.Keys.{term_at, trees, tree_of_key, word_of, parts_of, AreKeys, IsKey}
use Rattle.ground_terms.proofs.Facts.{length_trees, tree_of_number, different, dropped_same, same_test, nat_eq_self}
use Rattle.diagnose_lint.specs.Names.{is_goal_number}
use Rattle.diagnose_lint.specs.declared.dropped_finding.Lack.{Lack}
use Rattle.diagnose_lint.specs.declared.dropped_finding.Lack.TheVariants.{Base, Input, Goal}
use Rattle.diagnose_lint.specs.Effects.{is_goal_term, lacks}
use Rattle.diagnose_lint.specs.Keyed.{Numbers, is_goal_key, lacks_in}

-- Tests.

and_left : (a b : Bool) → (a && b) ≡ true → a ≡ true
and_left true b e = refl
and_left false b e = absurd cc

and_right : (a b : Bool) → (a && b) ≡ true → b ≡ true
and_right true b e = e
and_right false b e = absurd cc

one_left : {A B : Type 0} (a : A) (b : B) (s t : Bool) → length (cond s (a ∷ []) []) ≡ length (cond t (b ∷ []) []) → s ≡ t
one_left a b true true e = refl
one_left a b false false e = refl
one_left a b true false e = absurd cc
one_left a b false true e = absurd cc

one_only : (s l : Bool) → (s || ((l && false) && false)) ≡ true → s ≡ true
one_only true l e = refl
one_only false true e = absurd cc
one_only false false e = absurd cc

two_only : (a b s : Bool) → ((((a && false) || (b && false)) && false) || s) ≡ true → s ≡ true
two_only a b true e = refl
two_only true true false e = absurd cc
two_only true false false e = absurd cc
two_only false true false e = absurd cc
two_only false false false e = absurd cc

-- Of what has no effect: with one part it is of no base proposition, and with two of no input.

dropped_one : (rules : List Alternative) (v : List ℕ) (t : Tree) → is_dropped rules (record { word = v; terms = tree t no_trees }) ≡ true
    → lacks rules Base (record { word = v; terms = tree t no_trees }) ≡ true
dropped_one rules v t e = one_only (lacks rules Base (record { word = v; terms = tree t no_trees })) (name_eq v w_legal) e

dropped_two : (rules : List Alternative) (v : List ℕ) (t u : Tree) → is_dropped rules (record { word = v; terms = tree t (tree u no_trees) }) ≡ true
    → lacks rules Input (record { word = v; terms = tree t (tree u no_trees) }) ≡ true
dropped_two rules v t u e =
    two_only (name_eq v w_init) (name_eq v w_next) (lacks rules Input (record { word = v; terms = tree t (tree u no_trees) })) e

both : (a b : Bool) → a ≡ true → b ≡ true → ((a && true) && b) ≡ true
both true true e f = refl
both true false e f = absurd cc
both false b e f = absurd cc

-- Trees of keys.

record Same (v w : List ℕ) (ts us : Trees) : Type 0 where
  pub word : v ≡ w
  pub parts : ts ≡ us

parts_of_tree : (v w : List ℕ) (ts us : Trees) → tree_at v ts ≡ tree_at w us → Same v w ts us
parts_of_tree v w no_trees no_trees e = record { word = cc; parts = refl }
parts_of_tree v w no_trees (tree u us) e = absurd cc
parts_of_tree v w (tree t ts) no_trees e = absurd cc
parts_of_tree v w (tree t ts) (tree u us) e = record { word = cc; parts = cc }

goal_key_same : (words : List (List ℕ)) (done : List Tree) (n : ℕ) (key : List ℕ) → IsKey (length words) n key
    → is_goal_key words key ≡ is_goal_term (tree_of_key words done key)
goal_key_same words done n [] h = absurd h
goal_key_same words done n (s ∷ []) h =
    let less = h.0 in
    let within : nat_lt s (length words) ≡ true = grind (arith, less, nat_tests) in
    ap (λ (b : Bool). b && is_goal_number (word_at words s)) within
goal_key_same words done n (s ∷ (p ∷ ps)) h = refl

-- the atom of a key
abbrev atom_of_key : List (List ℕ) → List Tree → List ℕ → Atom
atom_of_key words done key = record { word = word_at words (word_of key); terms = trees_of (map (term_at done) (parts_of key)) }

module _ (words : List (List ℕ)) (differ : NamesDiffer words) (keys : List (List ℕ)) (keyed : AreKeys (length words) keys) where
  term_same : (t r : ℕ) → t < length (trees words keys) → r < length (trees words keys)
      → nat_eq t r ≡ tree_eq (term_at (trees words keys) t) (term_at (trees words keys) r)
  term_same t r h k = same_test (nat_eq t r) (tree_eq (term_at (trees words keys) t) (term_at (trees words keys) r)) there back
    where
      there : nat_eq t r ≡ true → tree_eq (term_at (trees words keys) t) (term_at (trees words keys) r) ≡ true
      there e = subst (λ (n : ℕ). tree_eq (term_at (trees words keys) t) (term_at (trees words keys) n) ≡ true) (eqb-true t r e)
          (tree_eq_self (term_at (trees words keys) t))

      back : tree_eq (term_at (trees words keys) t) (term_at (trees words keys) r) ≡ true → nat_eq t r ≡ true
      back e = subst (λ (n : ℕ). nat_eq t n ≡ true)
          (different words differ keys keyed t r h k (tree_eq_yes (term_at (trees words keys) t) (term_at (trees words keys) r) e)) (nat_eq_self t)

  -- a term is among some exactly where its number is
  among_same : (t : ℕ) → t < length (trees words keys) → (ns : List ℕ) → NumbersBelow (length (trees words keys)) ns
      → list_any (nat_eq t) ns ≡ is_tree_in (term_at (trees words keys) t) (map (term_at (trees words keys)) ns)
  among_same t h [] b = refl
  among_same t h (n ∷ ns) b =
      let first = term_same t n h b.0 in
      let rest = among_same t h ns b.1 in cc

  value_same : (v : ℕ) → v < length keys → is_goal_key words (key_at keys v) ≡ is_goal_term (term_at (trees words keys) v)
  value_same v h =
      goal_key_same words (trees words keys) v (key_at keys v) (keyed.each v h)
      ∙ ap is_goal_term (sym (tree_of_number words (length words) keys keyed v h))

  module _ (named : Keywords) (k : AreKeywords words named) (rules : List Alternative) (bases roles : List ℕ) (inputs : List (List ℕ))
      (shown : AreShown rules (trees words keys) bases roles inputs) where
    abbrev numbers : Numbers
    numbers = record { words = words; keys = keys; named = named; bases = bases; roles = roles; inputs = inputs }

    goal_lacks : (w r v : ℕ) → r < length keys → v < length keys → lacks_in numbers Goal (w ∷ (r ∷ (v ∷ []))) ≡ true
        → lacks rules Goal (atom_of_key words (trees words keys) (w ∷ (r ∷ (v ∷ [])))) ≡ true
    goal_lacks w r v h i e =
        let long = length_trees words [] keys in
        let same : w ≡ named.goal = eqb-true w named.goal (and_left (w == named.goal) _ e) in
        let word : word_at words w ≡ w_goal = ap (word_at words) same ∙ k.goal.same in
        let named_so : name_eq (word_at words w) w_goal ≡ true = subst (λ (l : List ℕ). name_eq (word_at words w) l ≡ true) word
        (name_eq_self (word_at words w)) in
        let role = among_same r (omega (arith, h, long)) roles shown.roles_in ∙ ap (is_tree_in (term_at (trees words keys) r)) shown.roles_are in
        let value = value_same v i in
        let not_both : not (is_tree_in (term_at (trees words keys) r) (role_list rules) && is_goal_term (term_at (trees words keys) v)) ≡ true =
        ap (λ (b : Bool). not (b && is_goal_term (term_at (trees words keys) v))) (sym role)
        ∙ ap (λ (b : Bool). not (list_any (nat_eq r) roles && b)) (sym value)
        ∙ and_right (w == named.goal) _ e in
        both (name_eq (word_at words w) w_goal) _ named_so not_both

    by_key : (lack : Lack) (key : List ℕ) (n : ℕ) → n ≤ length keys → IsKey (length words) n key
        → is_dropped_in named bases roles inputs key ≡ is_dropped rules (atom_of_key words (trees words keys) key)
        → lacks_in numbers lack key ≡ true → lacks rules lack (atom_of_key words (trees words keys) key) ≡ true
    by_key lack [] n m h d e = absurd h
    by_key lack (w ∷ []) n m h d e = absurd cc
    by_key Base (w ∷ (p ∷ [])) n m h d e = dropped_one rules (word_at words w) (term_at (trees words keys) p) (sym d ∙ e)
    by_key Input (w ∷ (p ∷ [])) n m h d e = absurd cc
    by_key Goal (w ∷ (p ∷ [])) n m h d e = absurd cc
    by_key Base (w ∷ (r ∷ (p ∷ []))) n m h d e = absurd cc
    by_key Input (w ∷ (r ∷ (p ∷ []))) n m h d e =
        dropped_two rules (word_at words w) (term_at (trees words keys) r) (term_at (trees words keys) p) (sym d ∙ e)
    by_key Goal (w ∷ (r ∷ (p ∷ []))) n m h d e =
        let one = h.1.0 in let two = h.1.1.0 in goal_lacks w r p (omega (arith, one, m)) (omega (arith, two, m)) e
    by_key lack (w ∷ (r ∷ (p ∷ (x ∷ xs)))) n m h d e = absurd cc

    -- what the key of an atom lacks, the atom lacks
    pub key_lacks : (lack : Lack) (n : ℕ) (x : Atom) → n < length keys → term_at (trees words keys) n ≡ tree_of x
        → lacks_in numbers lack (key_at keys n) ≡ true → lacks rules lack x ≡ true
    key_lacks lack n x h e lacking =
        let long = length_trees words [] keys in
        let s = parts_of_tree (word_at words (word_of (key_at keys n))) x.word
        (trees_of (map (term_at (trees words keys)) (parts_of (key_at keys n)))) x.terms (sym (tree_of_number words (length words) keys keyed n h)
        ∙ e) in
        let same : ◌≡◌ {A = Atom} (atom_of_key words (trees words keys) (key_at keys n)) x = λ i. record { word = s.word i; terms = s.parts i } in
        let one = dropped_same words differ keys keyed named k rules bases roles inputs shown (n ∷ []) (x ∷ [])
        (record { below = (omega (arith, h, long), tt); same = ap (λ (t : Tree). t ∷ []) e }) in
        let dropped = one_left n x (is_dropped_in named bases roles inputs (key_at keys n)) (is_dropped rules x) one in
        subst (λ (y : Atom). lacks rules lack y ≡ true) same
        (by_key lack (key_at keys n) n (omega (arith, h)) (keyed.each n h) (dropped ∙ ap (is_dropped rules) (sym same)) lacking)
