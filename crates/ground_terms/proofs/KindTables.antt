-- The kinds of atoms by the numbers of their words and terms.
use Rattle.std.proofs.Common.{
  ℕ,
  suc,
  zero,
  ◌+◌,
  ◌<◌,
  ◌≡◌,
  ◌==◌,
  Bool,
  true,
  false,
  cond,
  List,
  [],
  ◌∷◌,
  length,
  map,
  get_or,
  refl,
  sym,
  ◌∙◌,
  ap,
  subst,
  arith,
  Option,
  Some,
  None,
  eqb-true,
  eq-eqb,
}
use Rattle.std.specs.List.{position_from}
use Rattle.std.specs.Option.{option_map}
use Rattle.std.proofs.lemmas.Iterator.Adapters.{position_from-zero}
use Rattle.std.proofs.lemmas.List.Quantifiers.{position-Some}
use Rattle.statement.specs.Tree.{Tree, Trees, name, no_trees, tree, trees_of, name_eq, tree_eq}
use Rattle.kif.proofs.Facts.{name_eq_yes, name_eq_self, tree_eq_yes, tree_eq_self}
use Rattle.statement.specs.Clause.{Atom, Alternative, relation_of, tree_of, tree_at}
use Rattle.statement.specs.Dependence.{is_fixed}
use Rattle.rules.specs.RuleSets.{IsNameNumber, AreKeywords}
use Rattle.statement.specs.Words.{w_true, w_does, w_next, w_legal, w_goal, w_terminal}
use Rattle.rules.specs.declared.rule_set.Keywords.{Keywords}
use Rattle.statement.specs.declared.kind.Kind.{Kind}
use Rattle.statement.specs.declared.kind.Kind.TheVariants.{Fixed, Now, Does, Next, Legal, Goal, Terminal, Other}
use Rattle.rules_clauses.specs.Marks.{NumbersBelow}
use Rattle.rules_clauses.specs.Numbers.{word_at, NamesDiffer}
use Rattle.ground_terms.specs.Keys.{term_at, tree_of_key, trees, AreDifferentTerms, IsKey}
use Rattle.util_interner.specs.KeyLists.{key_at}
use Rattle.ground_terms.specs.Arena.{AreNumbered}
use Rattle.statement.specs.Kinds.{place_in, value_of, one_number, two_numbers, kind_at, kind_of}
use Rattle.statement.specs.Listing.{role_list, base_list, input_list}
use Rattle.ground_terms.specs.Tables.{AreTables, inputs_at, place_of, input_place, kind_without, kind_with_one, kind_with_two}
use Rattle.ground_terms.proofs.KeyTrees.{different, length_trees, tree_of_number, parts_of_tree}

-- A word by its number.

pub word_test : (words : List (List ℕ)) → NamesDiffer words → (n : ℕ) (v : List ℕ) → IsNameNumber words n v → (w : ℕ) → w < length words
    → name_eq (word_at words w) v ≡ (w == n)
word_test words d n v i w h = go (w == n) refl
  where
    no : (b : Bool) → name_eq (word_at words w) v ≡ b → (w == n) ≡ false → b ≡ false
    no true e f = let same : w ≡ n = d w n h i.inside (name_eq_yes (word_at words w) v e ∙ sym i.same) in let g = sym f ∙ eq-eqb w n same in absurd cc
    no false e f = refl

    go : (b : Bool) → (w == n) ≡ b → name_eq (word_at words w) v ≡ (w == n)
    go true e = let same = eqb-true w n e in ap (λ (k : ℕ). name_eq (word_at words k) v) same ∙ ap (λ (u : List ℕ). name_eq u v) i.same
        ∙ name_eq_self v ∙ sym e
    go false e = no (name_eq (word_at words w) v) refl e ∙ sym e

-- A place by numbers.

tree_test : (terms : List Tree) → AreDifferentTerms terms → (n m : ℕ) → n < length terms → m < length terms
    → tree_eq (term_at terms n) (term_at terms m) ≡ (n == m)
tree_test terms d n m h k = go (n == m) refl
  where
    no : (b : Bool) → tree_eq (term_at terms n) (term_at terms m) ≡ b → (n == m) ≡ false → b ≡ false
    no true e f = let same : n ≡ m = d n m h k (tree_eq_yes (term_at terms n) (term_at terms m) e) in let g = sym f ∙ eq-eqb n m same in absurd cc
    no false e f = refl

    go : (b : Bool) → (n == m) ≡ b → tree_eq (term_at terms n) (term_at terms m) ≡ (n == m)
    go true e = let same = eqb-true n m e in ap (λ (j : ℕ). tree_eq (term_at terms j) (term_at terms m)) same ∙ tree_eq_self (term_at terms m) ∙ sym e
    go false e = no (tree_eq (term_at terms n) (term_at terms m)) refl e ∙ sym e

one_up : (i : ℕ) (o : Option ℕ) → option_map (λ (k : ℕ). k + (i + 1)) o ≡ option_map (λ (k : ℕ). k + i) (option_map suc o)
one_up i None = refl
one_up i (Some k) = ap (λ (n : ℕ). Some n) (let e : k + (i + 1) ≡ suc k + i = omega arith in e)

none_up : (o : Option ℕ) → option_map (λ (k : ℕ). k + 0) o ≡ o
none_up None = refl
none_up (Some k) = ap (λ (n : ℕ). Some n) (let e : k + 0 ≡ k = omega arith in e)

places_from : (terms : List Tree) → AreDifferentTerms terms → (n : ℕ) → n < length terms → (i : ℕ) (ms : List ℕ) → NumbersBelow (length terms) ms
    → position_from (λ (m : ℕ). n == m) i ms ≡ option_map (λ (k : ℕ). k + i) (place_in (term_at terms n) (map (term_at terms) ms))
places_from terms d n h i [] b = refl
places_from terms d n h i (m ∷ ms) b =
    go (n == m) (tree_test terms d n m h b.0) (places_from terms d n h (i + 1) ms b.1)
  where
    go : (t : Bool) → tree_eq (term_at terms n) (term_at terms m) ≡ t
        → position_from (λ (m : ℕ). n == m) (i + 1) ms ≡ option_map (λ (k : ℕ). k + (i + 1)) (place_in (term_at terms n) (map (term_at terms) ms))
        → cond t (Some i) (position_from (λ (m : ℕ). n == m) (i + 1) ms) ≡ option_map (λ (k : ℕ). k + i)
        (cond (tree_eq (term_at terms n) (term_at terms m)) (Some zero) (option_map suc (place_in (term_at terms n) (map (term_at terms) ms))))
    go true e f = ap (λ (k : ℕ). Some k) (let g : i ≡ 0 + i = omega arith in g)
        ∙ ap (λ (t : Bool). option_map (λ (k : ℕ). k + i) (cond t (Some zero) (option_map suc (place_in (term_at terms n) (map (term_at terms) ms)))))
        (sym e)
    go false e f =
        f ∙ one_up i (place_in (term_at terms n) (map (term_at terms) ms))
        ∙ ap (λ (t : Bool). option_map (λ (k : ℕ). k + i) (cond t (Some zero) (option_map suc (place_in (term_at terms n) (map (term_at terms) ms)))))
        (sym e)

pub place_is : (terms : List Tree) → AreDifferentTerms terms → (n : ℕ) → n < length terms → (ms : List ℕ) → NumbersBelow (length terms) ms
    → place_in (term_at terms n) (map (term_at terms) ms) ≡ place_of n ms
place_is terms d n h ms b =
    sym (position_from-zero (λ (m : ℕ). n == m) ms ∙ places_from terms d n h 0 ms b ∙ none_up (place_in (term_at terms n) (map (term_at terms) ms)))

-- Values.

pub no_value : (words : List (List ℕ)) (many : ℕ) (keys : List (List ℕ)) (number : ℕ) (key : List ℕ) (b : Bool) → AreNumbered many keys
    → number < length keys → key ≡ key_at keys number → (length key ≡ 1 → ⊥)
    → None ≡ cond b (value_of (term_at (trees words keys) number)) None
no_value words many keys number key false a h e other = refl
no_value words many keys number key true a h e other = go key (subst (λ (x : List ℕ). IsKey many number x) (sym e) (a.keyed.each number h)) other
    (ap (λ (x : List ℕ). tree_of_key words (trees words keys) x) e ∙ sym (tree_of_number words many keys a.keyed number h))
  where
    go : (x : List ℕ) → IsKey many number x → (length x ≡ 1 → ⊥) → tree_of_key words (trees words keys) x ≡ term_at (trees words keys) number
        → None ≡ value_of (term_at (trees words keys) number)
    go [] i o f = absurd i
    go (w ∷ []) i o f = absurd (o refl)
    go (w ∷ (p ∷ ps)) i o f = ap value_of f

pub a_value : (words : List (List ℕ)) (many : ℕ) (keys : List (List ℕ)) (number : ℕ) (key : List ℕ) (b : Bool) (o : Option ℕ) (word : List ℕ)
    → AreNumbered many keys → number < length keys → key ≡ key_at keys number
    → length key ≡ 1 → b ≡ true → word ≡ word_at words (get_or key 0 0) → o ≡ value_of (name word)
    → o ≡ cond b (value_of (term_at (trees words keys) number)) None
a_value words many keys number key b o word a h e one f w g =
    g ∙ ap value_of (ap name w ∙ go key one (ap (λ (x : List ℕ). tree_of_key words (trees words keys) x) e
    ∙ sym (tree_of_number words many keys a.keyed number h)))
    ∙ ap (λ (t : Bool). cond t (value_of (term_at (trees words keys) number)) None) (sym f)
  where
    go : (x : List ℕ) → length x ≡ 1 → tree_of_key words (trees words keys) x ≡ term_at (trees words keys) number
        → name (word_at words (get_or x 0 0)) ≡ term_at (trees words keys) number
    go [] l r = absurd (let bad : ⊥ = omega (arith, l) in bad)
    go (w ∷ []) l r = r
    go (w ∷ (p ∷ ps)) l r = absurd (let bad : ⊥ = omega (arith, l) in bad)

-- Kinds.

atom_kind : (rules : List Alternative) (x : Atom) (w : List ℕ) (ts : Trees) (b : Bool) → is_fixed rules (relation_of x) ≡ b → b ≡ false
    → tree_of x ≡ tree_at w ts → kind_of rules x ≡ kind_at rules w ts
atom_kind rules x w ts b e f t =
    let s = parts_of_tree x.word w x.terms ts t in
    ap (λ (u : Bool). cond u Fixed (kind_at rules x.word x.terms)) (e ∙ f) ∙ ap (λ (v : List ℕ). kind_at rules v x.terms) s.word
    ∙ ap (λ (us : Trees). kind_at rules w us) s.parts

-- what is known of the numbers
pub record Known (words : List (List ℕ)) (k : Keywords) (keys : List (List ℕ)) : Type 0 where
  pub different_words : NamesDiffer words
  pub keywords : AreKeywords words k
  pub numbered : AreNumbered (length words) keys

pub known : (words : List (List ℕ)) (k l : Keywords) (keys : List (List ℕ)) (sizes : List ℕ) → NamesDiffer words → AreKeywords words l → k ≡ l
    → length sizes ≡ length words → AreNumbered (length sizes) keys → Known words k keys
known words k l keys sizes d a e f n = record {
  different_words = d;
  keywords = subst (λ (j : Keywords). AreKeywords words j) (sym e) a;
  numbered = subst (λ (m : ℕ). AreNumbered m keys) f n;
}

terms_differ : (words : List (List ℕ)) (k : Keywords) (keys : List (List ℕ)) → Known words k keys → AreDifferentTerms (trees words keys)
terms_differ words k keys n = different words n.different_words keys n.numbered.keyed

tree_is : (words : List (List ℕ)) (k : Keywords) (keys : List (List ℕ)) (number : ℕ) (key : List ℕ) → Known words k keys → number < length keys
    → key ≡ key_at keys number
    → term_at (trees words keys) number ≡ tree_of_key words (trees words keys) key
tree_is words k keys number key n h e = tree_of_number words (length words) keys n.numbered.keyed number h
    ∙ ap (λ (x : List ℕ). tree_of_key words (trees words keys) x) (sym e)

key_is : (words : List (List ℕ)) (k : Keywords) (keys : List (List ℕ)) (number : ℕ) (key : List ℕ) → Known words k keys → number < length keys
    → key ≡ key_at keys number → IsKey (length words) number key
key_is words k keys number key n h e = subst (λ (x : List ℕ). IsKey (length words) number x) (sym e) (n.numbered.keyed.each number h)

pub kind_none : (rules : List Alternative) (words : List (List ℕ)) (k : Keywords) (keys : List (List ℕ)) (number : ℕ) (key : List ℕ) (b : Bool)
    (r : Kind) → Known words k keys → number < length keys → key ≡ key_at keys number
    → b ≡ false → length key ≡ 1 → r ≡ kind_without k (get_or key 0 0)
    → (x : Atom) → tree_of x ≡ term_at (trees words keys) number → is_fixed rules (relation_of x) ≡ b → r ≡ kind_of rules x
kind_none rules words k keys number key b r n h e f one g x t u = g
    ∙ go key one (key_is words k keys number key n h e) (t ∙ tree_is words k keys number key n h e)
  where
    go : (y : List ℕ) → length y ≡ 1 → IsKey (length words) number y → tree_of x ≡ tree_of_key words (trees words keys) y
        → kind_without k (get_or y 0 0) ≡ kind_of rules x
    go [] l i s = absurd i
    go (w ∷ []) l i s =
        ap (λ (c : Bool). cond c Terminal Other) (sym (word_test words n.different_words k.terminal w_terminal n.keywords.terminal w i.0))
        ∙ sym (atom_kind rules x (word_at words w) no_trees b u f s)
    go (w ∷ (p ∷ ps)) l i s = absurd (let bad : ⊥ = omega (arith, l) in bad)

long : (words : List (List ℕ)) (keys : List (List ℕ)) → length (trees words keys) ≡ length keys
long words keys = length_trees words [] keys ∙ (let e : 0 + length keys ≡ length keys = omega arith in e)

pub kind_one : (rules : List Alternative) (words : List (List ℕ)) (k : Keywords) (keys : List (List ℕ)) (number : ℕ) (key : List ℕ) (b : Bool)
    (r : Kind) (roles base : List ℕ) (inputs : List (List ℕ)) (place : Option ℕ)
    → Known words k keys → number < length keys → key ≡ key_at keys number → b ≡ false → AreTables rules (trees words keys) roles base inputs
    → length key ≡ 2 → place ≡ place_of (get_or key 1 0) base → r ≡ kind_with_one k (get_or key 0 0) place
    → (x : Atom) → tree_of x ≡ term_at (trees words keys) number → is_fixed rules (relation_of x) ≡ b → r ≡ kind_of rules x
kind_one rules words k keys number key b r roles base inputs place n h e f tables two at g x t u = g
    ∙ go key two at (key_is words k keys number key n h e) (t ∙ tree_is words k keys number key n h e)
  where
    terms : List Tree
    terms = trees words keys

    go : (y : List ℕ) → length y ≡ 2 → place ≡ place_of (get_or y 1 0) base → IsKey (length words) number y → tree_of x ≡ tree_of_key words terms y
        → kind_with_one k (get_or y 0 0) place ≡ kind_of rules x
    go [] l a i s = absurd i
    go (w ∷ []) l a i s = absurd (let bad : ⊥ = omega (arith, l) in bad)
    go (w ∷ (p ∷ [])) l a i s =
        let small : p < length terms = (let less = i.1.0 in let c = long words keys in omega (arith, less, h, c)) in
        let here : place ≡ place_in (term_at terms p) (base_list rules) = a
        ∙ sym (place_is terms (terms_differ words k keys n) p small base tables.base_within)
        ∙ ap (λ (ts : List Tree). place_in (term_at terms p) ts) tables.base_are in
        ap (λ (c : Bool). cond c (one_number Now place) (cond (w == k.next) (one_number Next place) Other))
        (sym (word_test words n.different_words k.now w_true n.keywords.now w i.0))
        ∙ ap (λ (c : Bool). cond (name_eq (word_at words w) w_true) (one_number Now place) (cond c (one_number Next place) Other))
        (sym (word_test words n.different_words k.next w_next n.keywords.next w i.0))
        ∙ ap (λ (o : Option ℕ). cond (name_eq (word_at words w) w_true) (one_number Now o)
        (cond (name_eq (word_at words w) w_next) (one_number Next o) Other)) here
        ∙ sym (atom_kind rules x (word_at words w) (tree (term_at terms p) no_trees) b u f s)
    go (w ∷ (p ∷ (q ∷ ps))) l a i s = absurd (let bad : ⊥ = omega (arith, l) in bad)

both_places : (rules : List Alternative) (terms : List Tree) (roles base : List ℕ) (inputs : List (List ℕ)) → AreDifferentTerms terms
    → AreTables rules terms roles base inputs → (p q : ℕ) → p < length terms → q < length terms
    → (role : Option ℕ) → role ≡ place_of p roles → (make : ℕ → ℕ → Kind) → two_numbers make role (input_place inputs role q) ≡ two_numbers make role
    (place_in (term_at terms q) (input_list rules (term_at terms p)))
both_places rules terms roles base inputs d tables p q h l None e make = refl
both_places rules terms roles base inputs d tables p q h l (Some k) e make =
    let f = position-Some (λ (m : ℕ). p == m) roles k 0 (sym e) in
    let same : p ≡ get_or roles k 0 = eqb-true p (get_or roles k 0) f.1 in
    ap (λ (o : Option ℕ). two_numbers make (Some k) o)
    (sym (place_is terms d q l (inputs_at inputs k) (tables.inputs_within k))
    ∙ ap (λ (ts : List Tree). place_in (term_at terms q) ts)
    (tables.inputs_are k f.0 ∙ ap (λ (m : ℕ). input_list rules (term_at terms m)) (sym same)))

goal_part : (b : Bool) (role value : Option ℕ) (o : Option ℕ) → value ≡ cond b o None
    → cond b (two_numbers Goal role value) Other ≡ cond b (two_numbers Goal role o) Other
goal_part true role value o e = ap (λ (u : Option ℕ). two_numbers Goal role u) e
goal_part false role value o e = refl

pub kind_two : (rules : List Alternative) (words : List (List ℕ)) (k : Keywords) (keys : List (List ℕ)) (number : ℕ) (key : List ℕ) (b : Bool)
    (r : Kind) (roles base : List ℕ) (inputs : List (List ℕ)) (role input value : Option ℕ)
    → Known words k keys → number < length keys → key ≡ key_at keys number → b ≡ false → AreTables rules (trees words keys) roles base inputs
    → length key ≡ 3 → role ≡ place_of (get_or key 1 0) roles → input ≡ input_place inputs role (get_or key 2 0)
    → value ≡ cond (get_or key 0 0 == k.goal) (value_of (term_at (trees words keys) (get_or key 2 0))) None
    → r ≡ kind_with_two k (get_or key 0 0) role input value
    → (x : Atom) → tree_of x ≡ term_at (trees words keys) number → is_fixed rules (relation_of x) ≡ b → r ≡ kind_of rules x
kind_two rules words k keys number key b r roles base inputs role input value n h e f tables three at in_at val g x t u =
    g ∙ go key three at in_at val (key_is words k keys number key n h e) (t ∙ tree_is words k keys number key n h e)
  where
    terms : List Tree
    terms = trees words keys

    go : (y : List ℕ) → length y ≡ 3 → role ≡ place_of (get_or y 1 0) roles → input ≡ input_place inputs role (get_or y 2 0)
        → value ≡ cond (get_or y 0 0 == k.goal) (value_of (term_at terms (get_or y 2 0))) None
        → IsKey (length words) number y → tree_of x ≡ tree_of_key words terms y → kind_with_two k (get_or y 0 0) role input value ≡ kind_of rules x
    go [] l a c v i s = absurd i
    go (w ∷ []) l a c v i s = absurd (let bad : ⊥ = omega (arith, l) in bad)
    go (w ∷ (p ∷ [])) l a c v i s = absurd (let bad : ⊥ = omega (arith, l) in bad)
    go (w ∷ (p ∷ (q ∷ []))) l a c v i s =
        let first : p < length terms = (let less = i.1.0 in let m = long words keys in omega (arith, less, h, m)) in
        let second : q < length terms = (let less = i.1.1.0 in let m = long words keys in omega (arith, less, h, m)) in
        let d = terms_differ words k keys n in
        let tp = term_at terms p in
        let tq = term_at terms q in
        let here : role ≡ place_in tp (role_list rules) = a ∙ sym (place_is terms d p first roles tables.roles_within)
        ∙ ap (λ (ts : List Tree). place_in tp ts) tables.roles_are in
        let moves : (make : ℕ → ℕ → Kind) → two_numbers make role input ≡ two_numbers make (place_in tp (role_list rules))
        (place_in tq (input_list rules tp)) =
        λ (make : ℕ → ℕ → Kind). ap (λ (o : Option ℕ). two_numbers make role o) c
        ∙ both_places rules terms roles base inputs d tables p q first second role a make
        ∙ ap (λ (o : Option ℕ). two_numbers make o (place_in tq (input_list rules tp))) here in
        let goals : cond (w == k.goal) (two_numbers Goal role value) Other ≡ cond (w == k.goal)
        (two_numbers Goal (place_in tp (role_list rules)) (value_of tq)) Other =
        goal_part (w == k.goal) role value (value_of tq) v ∙ ap (λ (o : Option ℕ). cond (w == k.goal) (two_numbers Goal o (value_of tq)) Other) here
        in
        let does = two_numbers Does (place_in tp (role_list rules)) (place_in tq (input_list rules tp)) in
        let legal = two_numbers Legal (place_in tp (role_list rules)) (place_in tq (input_list rules tp)) in
        let wins = two_numbers Goal (place_in tp (role_list rules)) (value_of tq) in
        ap (λ (z : Kind). cond (w == k.does) z (cond (w == k.legal) (two_numbers Legal role input)
        (cond (w == k.goal) (two_numbers Goal role value) Other))) (moves Does)
        ∙ ap (λ (z : Kind). cond (w == k.does) does (cond (w == k.legal) z (cond (w == k.goal) (two_numbers Goal role value) Other))) (moves Legal)
        ∙ ap (λ (z : Kind). cond (w == k.does) does (cond (w == k.legal) legal z)) goals
        ∙ ap (λ (o : Bool). cond o does (cond (w == k.legal) legal (cond (w == k.goal) wins Other)))
        (sym (word_test words n.different_words k.does w_does n.keywords.does w i.0))
        ∙ ap (λ (o : Bool). cond (name_eq (word_at words w) w_does) does (cond o legal (cond (w == k.goal) wins Other)))
        (sym (word_test words n.different_words k.legal w_legal n.keywords.legal w i.0))
        ∙ ap (λ (o : Bool). cond (name_eq (word_at words w) w_does) does (cond (name_eq (word_at words w) w_legal) legal (cond o wins Other)))
        (sym (word_test words n.different_words k.goal w_goal n.keywords.goal w i.0))
        ∙ sym (atom_kind rules x (word_at words w) (tree tp (tree tq no_trees)) b u f s)
    go (w ∷ (p ∷ (q ∷ (z ∷ ps)))) l a c v i s = absurd (let bad : ⊥ = omega (arith, l) in bad)

pub kind_other : (rules : List Alternative) (words : List (List ℕ)) (k : Keywords) (keys : List (List ℕ)) (number : ℕ) (key : List ℕ) (b : Bool)
    → Known words k keys → number < length keys → key ≡ key_at keys number
    → b ≡ false → (length key ≡ 1 → ⊥) → (length key ≡ 2 → ⊥) → (length key ≡ 3 → ⊥)
    → (x : Atom) → tree_of x ≡ term_at (trees words keys) number → is_fixed rules (relation_of x) ≡ b → Other ≡ kind_of rules x
kind_other rules words k keys number key b n h e f one two three x t u = go key one two three (key_is words k keys number key n h e)
    (t ∙ tree_is words k keys number key n h e)
  where
    go : (y : List ℕ) → (length y ≡ 1 → ⊥) → (length y ≡ 2 → ⊥) → (length y ≡ 3 → ⊥) → IsKey (length words) number y
        → tree_of x ≡ tree_of_key words (trees words keys) y → Other ≡ kind_of rules x
    go [] o p q i s = absurd i
    go (w ∷ []) o p q i s = absurd (o refl)
    go (w ∷ (m ∷ [])) o p q i s = absurd (p refl)
    go (w ∷ (m ∷ (j ∷ []))) o p q i s = absurd (q refl)
    go (w ∷ (m ∷ (j ∷ (z ∷ ps)))) o p q i s =
        sym (atom_kind rules x (word_at words w) (trees_of (map (term_at (trees words keys)) (m ∷ (j ∷ (z ∷ ps))))) b u f s)

pub third_below : (many : ℕ) (keys : List (List ℕ)) (number : ℕ) (key : List ℕ) → AreNumbered many keys → number < length keys
    → key ≡ key_at keys number → length key ≡ 3 → get_or key 2 0 < length keys
third_below many keys number key a h e l = go key l (subst (λ (x : List ℕ). IsKey many number x) (sym e) (a.keyed.each number h))
  where
    go : (y : List ℕ) → length y ≡ 3 → IsKey many number y → get_or y 2 0 < length keys
    go [] l i = absurd i
    go (w ∷ []) l i = absurd (let bad : ⊥ = omega (arith, l) in bad)
    go (w ∷ (p ∷ [])) l i = absurd (let bad : ⊥ = omega (arith, l) in bad)
    go (w ∷ (p ∷ (q ∷ ps))) l i = let less = i.1.1.0 in omega (arith, less, h)
