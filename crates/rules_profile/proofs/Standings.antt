-- The literals in a tree, and those of its alternatives.
use Rattle.std.proofs.Common.{ℕ, suc, subst, Bool, true, false, not, ◌&&◌, ◌||◌, ◌==◌, ◌≡◌, ◌⊎◌, inl, inr, List, [], ◌∷◌, ◌++◌, length, map, refl}
use Rattle.std.proofs.Common.{sym, ap, ◌∙◌, arith}
use Rattle.std.proofs.lemmas.Bool.Decides.{nat_tests}
use Rattle.statement.specs.Tree.{Tree, name, list, Trees, no_trees, tree, trees_of, name_eq}
use Rattle.kif.specs.View.{tree_of, trees_in}
use Rattle.kif.specs.declared.expr.Expr.{Expr}
use Rattle.kif.proofs.Facts.{both, name_eq_yes}
use Rattle.statement.specs.Words.{w_or, w_and, w_not, w_role}
use Rattle.statement.specs.Clause.{is_variable, Atom, Literal, positive, Relation, relation_of, atom_of, count_trees}
use Rattle.statement.specs.Items.{atom_in, negated, is_literal, is_literal_list, are_literals, is_some, readings, list_readings, readings_in_turn}
use Rattle.statement.specs.Items.{readings_of_all, behind_each, picks, item_alternatives, item_head, body_trees, head_tree, is_item, is_atom}
use Rattle.statement.specs.Items.{is_connective, is_constant, is_name, are_terms}
use Rattle.rules_profile.specs.Parts.{HasNoWord}
use Rattle.rules_profile.specs.Connectives.{IsNoConnective}
use Rattle.statement.specs.Profile.{heads_well, stands_well, body_stands_well, bodies_stand_well, uses, is_empty, misuses_word, is_role_well}
use Rattle.statement.specs.Safety.{variables, variables_in}
use Rattle.rules_profile.proofs.Tests.{not_true}
use Rattle.rules_profile.specs.Standing.{literals_in, literals_of_list, literals_of_all}

pub count_trees-trees_of : (ts : List Tree) → count_trees (trees_of ts) ≡ length ts
count_trees-trees_of [] = refl
count_trees-trees_of (t ∷ ts) = ap suc (count_trees-trees_of ts)

pub count_parts : {A : Type 0} (es : List (Expr A)) → count_trees (trees_of (trees_in es)) ≡ length es
count_parts [] = refl
count_parts (e ∷ es) = ap suc (count_parts es)

-- the relation of a list
pub signature : {A : Type 0} (t : Tree) (w : List ℕ) (rest : List (Expr A)) → t ≡ list (tree (name w) (trees_of (trees_in rest)))
    → relation_of (atom_in t) ≡ record { word = w; arity = length rest }
signature t w rest e = ap (λ (u : Tree). relation_of (atom_in u)) e ∙ ap (λ (n : ℕ). record { word = w; arity = n }) (count_parts rest)

pub no_signature : (t : Tree) (ts : List Tree) → t ≡ list (trees_of ts) → HasNoWord ts → relation_of (atom_in t) ≡ record { word = []; arity = 0 }
no_signature t ts e h = ap (λ (u : Tree). relation_of (atom_in u)) e ∙ go ts h
  where
    go : (us : List Tree) → HasNoWord us → relation_of (atom_in (list (trees_of us))) ≡ record { word = []; arity = 0 }
    go [] k = refl
    go (name w ∷ us) k = absurd (k w us refl)
    go (list vs ∷ us) k = refl

-- A test of literals, over lists of them.

abbrev pub all_literals : (Literal → Bool) → List Literal → Bool
all_literals test [] = true
all_literals test (l ∷ ls) = test l && all_literals test ls

abbrev pub all_readings : (Literal → Bool) → List (List Literal) → Bool
all_readings test [] = true
all_readings test (b ∷ bs) = all_literals test b && all_readings test bs

and_assoc : (a b c : Bool) → ((a && b) && c) ≡ (a && (b && c))
and_assoc true b c = refl
and_assoc false b c = refl

pub all_literals-append : (test : Literal → Bool) (xs ys : List Literal)
    → all_literals test (xs ++ ys) ≡ (all_literals test xs && all_literals test ys)
all_literals-append test [] ys = refl
all_literals-append test (x ∷ xs) ys =
    ap (λ (v : Bool). test x && v) (all_literals-append test xs ys) ∙ sym (and_assoc (test x) (all_literals test xs) (all_literals test ys))

pub all_readings-append : (test : Literal → Bool) (xs ys : List (List Literal))
    → all_readings test (xs ++ ys) ≡ (all_readings test xs && all_readings test ys)
all_readings-append test [] ys = refl
all_readings-append test (x ∷ xs) ys =
    ap (λ (v : Bool). all_literals test x && v) (all_readings-append test xs ys)
    ∙ sym (and_assoc (all_literals test x) (all_readings test xs) (all_readings test ys))

-- a list with something in it
abbrev pub IsSome' : {A : Type 0} → List A → Type 0
IsSome' [] = ⊥
IsSome' (x ∷ xs) = Unit {0}

some_append : {A : Type 0} (xs ys : List A) → IsSome' xs → IsSome' (xs ++ ys)
some_append [] ys h = absurd h
some_append (x ∷ xs) ys h = tt

some_behind : (a : List Literal) (bs : List (List Literal)) → IsSome' bs → IsSome' (behind_each a bs)
some_behind a [] h = absurd h
some_behind a (b ∷ bs) h = tt

some_picks : (as' bs : List (List Literal)) → IsSome' as' → IsSome' bs → IsSome' (picks as' bs)
some_picks [] bs h k = absurd h
some_picks (a ∷ as') bs h k = some_append (behind_each a bs) (picks as' bs) (some_behind a bs k)

-- bools
twice : (a b c : Bool) → ((a && b) && (a && c)) ≡ (a && (b && c))
twice true b c = refl
twice false b c = refl

once : (a b c : Bool) → ((a && b) && (c && b)) ≡ ((a && c) && b)
once true true c = refl
once true false true = refl
once true false false = refl
once false true c = refl
once false false c = refl

and_false : (a : Bool) → (a && false) ≡ false
and_false true = refl
and_false false = refl

and_true : (a : Bool) → (a && true) ≡ a
and_true true = refl
and_true false = refl

all_behind : (test : Literal → Bool) (a : List Literal) (bs : List (List Literal)) → IsSome' bs
    → all_readings test (behind_each a bs) ≡ (all_literals test a && all_readings test bs)
all_behind test a [] h = absurd h
all_behind test a (b ∷ []) h =
    ap (λ (v : Bool). v && true) (all_literals-append test a b) ∙ and_assoc (all_literals test a) (all_literals test b) true
all_behind test a (b ∷ (c ∷ bs)) h =
    ap (λ (v : Bool). v && all_readings test (behind_each a (c ∷ bs))) (all_literals-append test a b)
    ∙ ap (λ (v : Bool). (all_literals test a && all_literals test b) && v) (all_behind test a (c ∷ bs) tt)
    ∙ twice (all_literals test a) (all_literals test b) (all_readings test (c ∷ bs))

pub all_picks : (test : Literal → Bool) (as' bs : List (List Literal)) → IsSome' as' → IsSome' bs
    → all_readings test (picks as' bs) ≡ (all_readings test as' && all_readings test bs)
all_picks test [] bs h k = absurd h
all_picks test (a ∷ []) bs h k =
    all_readings-append test (behind_each a bs) [] ∙ and_true (all_readings test (behind_each a bs)) ∙ all_behind test a bs k
    ∙ ap (λ (v : Bool). v && all_readings test bs) (sym (and_true (all_literals test a)))
all_picks test (a ∷ (c ∷ as')) bs h k =
    all_readings-append test (behind_each a bs) (picks (c ∷ as') bs)
    ∙ ap (λ (v : Bool). v && all_readings test (picks (c ∷ as') bs)) (all_behind test a bs k)
    ∙ ap (λ (v : Bool). (all_literals test a && all_readings test bs) && v) (all_picks test (c ∷ as') bs tt k)
    ∙ once (all_literals test a) (all_readings test bs) (all_readings test (c ∷ as'))

-- a tree and its alternatives pass the same tests
pub record Agrees (test : Literal → Bool) (bs : List (List Literal)) (ls : List Literal) : Type 0 where
  pub some : IsSome' bs
  pub same : all_readings test bs ≡ all_literals test ls

lone : (test : Literal → Bool) (l : Literal) → Agrees test ((l ∷ []) ∷ []) (l ∷ [])
lone test l = record { some = tt; same = and_true (test l && true) }

-- the literal that a word and the parts behind it make, by the word
by_word : (test : Literal → Bool) (c : List ℕ) (ts : Trees) (o a n : Bool) → name_eq c w_or ≡ o → name_eq c w_and ≡ a → name_eq c w_not ≡ n
    → is_literal_list (tree (name c) ts) ≡ true
    → (is_some ts ≡ true → are_literals ts ≡ true → Agrees test (readings_in_turn ts) (literals_of_all ts))
    → (are_literals ts ≡ true → Agrees test (readings_of_all ts) (literals_of_all ts))
    → Agrees test (list_readings (tree (name c) ts)) (literals_of_list (tree (name c) ts))
by_word test c ts true a n eo ea en h turn all =
    subst (λ (v : List ℕ). is_literal_list (tree (name v) ts) ≡ true
    → Agrees test (list_readings (tree (name v) ts)) (literals_of_list (tree (name v) ts)))
    (sym (name_eq_yes c w_or eo)) (λ k. let b = both (is_some ts) (are_literals ts) k in turn b.0 b.1) h
by_word test c ts false true n eo ea en h turn all =
    subst (λ (v : List ℕ). is_literal_list (tree (name v) ts) ≡ true
    → Agrees test (list_readings (tree (name v) ts)) (literals_of_list (tree (name v) ts)))
    (sym (name_eq_yes c w_and ea)) (λ k. let b = both (is_some ts) (are_literals ts) k in all b.1) h
by_word test c ts false false true eo ea en h turn all =
    subst (λ (v : List ℕ). Agrees test (list_readings (tree (name v) ts)) (literals_of_list (tree (name v) ts)))
    (sym (name_eq_yes c w_not en)) (lone test (negated ts))
by_word test c ts false false false eo ea en h turn all = rw (eo, ea, en) (lone test (positive (record { word = c; terms = ts })))

mutual
  pub agrees : (test : Literal → Bool) (t : Tree) → is_literal t ≡ true → Agrees test (readings t) (literals_in t)
  agrees test (name c) h = lone test (positive (atom_in (name c)))
  agrees test (list no_trees) h = absurd cc
  agrees test (list (tree (list us) ts)) h = absurd cc
  agrees test (list (tree (name c) ts)) h =
      by_word test c ts (name_eq c w_or) (name_eq c w_and) (name_eq c w_not) refl refl refl h
      (λ s l. record { some = some_turn test ts s l; same = same_turn test ts l }) (λ l. agrees_all test ts l)

  some_turn : (test : Literal → Bool) (ts : Trees) → is_some ts ≡ true → are_literals ts ≡ true → IsSome' (readings_in_turn ts)
  some_turn test no_trees s h = absurd cc
  some_turn test (tree t ts) s h = some_append (readings t) (readings_in_turn ts) (agrees test t (both (is_literal t) (are_literals ts) h).0).some

  same_turn : (test : Literal → Bool) (ts : Trees) → are_literals ts ≡ true
      → all_readings test (readings_in_turn ts) ≡ all_literals test (literals_of_all ts)
  same_turn test no_trees h = refl
  same_turn test (tree t ts) h =
      all_readings-append test (readings t) (readings_in_turn ts)
      ∙ ap (λ (v : Bool). v && all_readings test (readings_in_turn ts)) (agrees test t (both (is_literal t) (are_literals ts) h).0).same
      ∙ ap (λ (v : Bool). all_literals test (literals_in t) && v) (same_turn test ts (both (is_literal t) (are_literals ts) h).1)
      ∙ sym (all_literals-append test (literals_in t) (literals_of_all ts))

  pub agrees_all : (test : Literal → Bool) (ts : Trees) → are_literals ts ≡ true → Agrees test (readings_of_all ts) (literals_of_all ts)
  agrees_all test no_trees h = record { some = tt; same = refl }
  agrees_all test (tree t ts) h =
      let k = both (is_literal t) (are_literals ts) h in
      let one = agrees test t k.0 in
      let more = agrees_all test ts k.1 in
      record {
        some = some_picks (readings t) (readings_of_all ts) one.some more.some;
        same = all_picks test (readings t) (readings_of_all ts) one.some more.some
            ∙ ap (λ (v : Bool). v && all_readings test (readings_of_all ts)) one.same
            ∙ ap (λ (v : Bool). all_literals test (literals_in t) && v) more.same
            ∙ sym (all_literals-append test (literals_in t) (literals_of_all ts));
      }

-- The places of words.

abbrev stands : Literal → Bool
stands l = stands_well (relation_of (atom_of l)) uses

body_tested : (ls : List Literal) → body_stands_well ls ≡ all_literals stands ls
body_tested [] = refl
body_tested (l ∷ ls) = ap (λ (v : Bool). stands l && v) (body_tested ls)

bodies_tested : (h : Atom) (bs : List (List Literal))
    → bodies_stand_well (map (λ (b : List Literal). record { head = h; body = b }) bs) ≡ all_readings stands bs
bodies_tested h [] = refl
bodies_tested h (b ∷ bs) =
    ap (λ (v : Bool). v && bodies_stand_well (map (λ (x : List Literal). record { head = h; body = x }) bs)) (body_tested b)
    ∙ ap (λ (v : Bool). all_literals stands b && v) (bodies_tested h bs)

-- in an item each literal of an alternative stands in the tree, and each literal of the tree in some alternative
pub bodies_in_tree : (t : Tree) → is_item t ≡ true → bodies_stand_well (item_alternatives t) ≡ body_stands_well (literals_of_all (body_trees t))
bodies_in_tree t h =
    let k = both (is_atom (head_tree t)) (are_literals (body_trees t)) h in
    bodies_tested (item_head t) (readings_of_all (body_trees t)) ∙ (agrees_all stands (body_trees t) k.1).same
    ∙ sym (body_tested (literals_of_all (body_trees t)))

-- the walk over the tree

pub literals_stand : (t : Tree) (ts : Trees) → body_stands_well (literals_of_all (tree t ts))
    ≡ (body_stands_well (literals_in t) && body_stands_well (literals_of_all ts))
literals_stand t ts =
    body_tested (literals_in t ++ literals_of_all ts) ∙ all_literals-append stands (literals_in t) (literals_of_all ts)
    ∙ ap (λ (v : Bool). v && all_literals stands (literals_of_all ts)) (sym (body_tested (literals_in t)))
    ∙ ap (λ (v : Bool). body_stands_well (literals_in t) && v) (sym (body_tested (literals_of_all ts)))

pub no_word_no_literals : (ts : List Tree) → HasNoWord ts → literals_in (list (trees_of ts)) ≡ []
no_word_no_literals [] h = refl
no_word_no_literals (name w ∷ ts) h = absurd (h w ts refl)
no_word_no_literals (list us ∷ ts) h = refl

pub literals_of_many : (w : List ℕ) (rest : Trees) → (w ≡ w_or) ⊎ (w ≡ w_and) → literals_in (list (tree (name w) rest)) ≡ literals_of_all rest
literals_of_many w rest (inl e) = ap (λ (v : List ℕ). literals_in (list (tree (name v) rest))) e
literals_of_many w rest (inr e) = ap (λ (v : List ℕ). literals_in (list (tree (name v) rest))) e

pub literals_of_not : (w : List ℕ) (rest : Trees) → w ≡ w_not → literals_in (list (tree (name w) rest)) ≡ negated rest ∷ []
literals_of_not w rest e = ap (λ (v : List ℕ). literals_in (list (tree (name v) rest))) e

pub literals_of_atom : (w : List ℕ) (rest : Trees) → IsNoConnective w
    → literals_in (list (tree (name w) rest)) ≡ positive (record { word = w; terms = rest }) ∷ []
literals_of_atom w rest n = rw (n.no_or, n.no_and, n.no_not) refl

pub one_stands : (l : Literal) → body_stands_well (l ∷ []) ≡ stands_well (relation_of (atom_of l)) uses
one_stands l = and_true (stands l)

-- names without variables

pub no_variables : (t : Tree) (ts : Trees) → is_empty (variables_in (tree t ts)) ≡ (is_empty (variables t) && is_empty (variables_in ts))
no_variables t ts = go (variables t)
  where
    go : (ns : List (List ℕ)) → is_empty (ns ++ variables_in ts) ≡ (is_empty ns && is_empty (variables_in ts))
    go [] = refl
    go (n ∷ ns) = refl

pub first_negated : {A : Type 0} (e : Expr A) (es : List (Expr A)) (ps : List (Expr A)) (p : Relation) → ps ≡ e ∷ es
    → relation_of (atom_in (tree_of e)) ≡ p
    → relation_of (atom_of (negated (trees_of (trees_in ps)))) ≡ p
first_negated e es ps p s r = ap (λ qs. relation_of (atom_of (negated (trees_of (trees_in qs))))) s ∙ r

pub none_negated : {A : Type 0} (ps : List (Expr A)) → length ps ≡ 0
    → relation_of (atom_of (negated (trees_of (trees_in ps)))) ≡ record { word = []; arity = 0 }
none_negated [] h = refl
none_negated (p ∷ ps) h = absurd (omega arith)

pub not_stands : (w : List ℕ) (rest : Trees) (p : Relation) → w ≡ w_not → relation_of (atom_of (negated rest)) ≡ p
    → body_stands_well (literals_in (list (tree (name w) rest))) ≡ stands_well p uses
not_stands w rest p e r =
    ap body_stands_well (literals_of_not w rest e) ∙ one_stands (negated rest) ∙ ap (λ (q : Relation). stands_well q uses) r

pub atom_stands : {A : Type 0} (w : List ℕ) (rest : List (Expr A)) → IsNoConnective w
    → body_stands_well (literals_in (list (tree (name w) (trees_of (trees_in rest))))) ≡ stands_well (record { word = w; arity = length rest }) uses
atom_stands w rest n =
    ap body_stands_well (literals_of_atom w (trees_of (trees_in rest)) n)
    ∙ one_stands (positive (record { word = w; terms = trees_of (trees_in rest) }))
    ∙ ap (λ (k : ℕ). stands_well (record { word = w; arity = k }) uses) (count_parts rest)

-- What an item misuses.

constant_is_free : (c : List ℕ) → is_constant c ≡ true → variables (name c) ≡ []
constant_is_free c h = rw (not_true _ (both (is_name c) (not (is_variable c)) h).1) refl

-- the variables of an atom are those of its terms
pub variables_of_atom : (t : Tree) → is_atom t ≡ true → variables t ≡ variables_in (atom_in t).terms
variables_of_atom (name c) h = constant_is_free c (both (is_constant c) (not (is_connective c)) h).0
variables_of_atom (list no_trees) h = absurd cc
variables_of_atom (list (tree (list us) ts)) h = absurd cc
variables_of_atom (list (tree (name c) ts)) h =
    let k = both (is_constant c && not (is_connective c)) (are_terms ts) h in
    ap (λ (ns : List (List ℕ)). ns ++ variables_in ts) (constant_is_free c (both (is_constant c) (not (is_connective c)) k.0).0)

-- an item, with its head, the head's relation, and its body
pub record IsSplit (t : Tree) (head : Tree) (p : Relation) (body : Trees) : Type 0 where
  pub item : is_item t ≡ true
  pub heads : head_tree t ≡ head
  pub bodies : body_trees t ≡ body
  pub relation : relation_of (atom_in head) ≡ p

head_relation : (t head : Tree) (p : Relation) (body : Trees) → IsSplit t head p body → relation_of (item_head t) ≡ p
head_relation t head p body s = ap (λ (u : Tree). relation_of (atom_in u)) s.heads ∙ s.relation

bodies_split : (t head : Tree) (p : Relation) (body : Trees) → IsSplit t head p body
    → bodies_stand_well (item_alternatives t) ≡ body_stands_well (literals_of_all body)
bodies_split t head p body s = bodies_in_tree t s.item ∙ ap (λ (ts : Trees). body_stands_well (literals_of_all ts)) s.bodies

pub head_misused : (t head : Tree) (p : Relation) (body : Trees) → IsSplit t head p body → heads_well p uses ≡ false → misuses_word t ≡ true
head_misused t head p body s h =
    ap (λ (v : Bool). not (v && (bodies_stand_well (item_alternatives t) && is_role_well t)))
    (ap (λ (q : Relation). heads_well q uses) (head_relation t head p body s) ∙ h)

pub body_misused : (t head : Tree) (p : Relation) (body : Trees) → IsSplit t head p body → body_stands_well (literals_of_all body) ≡ false
    → misuses_word t ≡ true
body_misused t head p body s h =
    ap (λ (v : Bool). not (heads_well (relation_of (item_head t)) uses && (v && is_role_well t))) (bodies_split t head p body s ∙ h)
    ∙ ap not (and_false (heads_well (relation_of (item_head t)) uses))

pub role_misused : (t head : Tree) (p : Relation) (body : Trees) → IsSplit t head p body → heads_well p uses ≡ true
    → body_stands_well (literals_of_all body) ≡ true
    → misuses_word t ≡ not (not (name_eq p.word w_role) || (not (is_some body) && is_empty (variables head)))
role_misused t head p body s h k =
    let a = both (is_atom (head_tree t)) (are_literals (body_trees t)) s.item in
    ap (λ (v : Bool). not (v && (bodies_stand_well (item_alternatives t) && is_role_well t)))
    (ap (λ (q : Relation). heads_well q uses) (head_relation t head p body s) ∙ h)
    ∙ ap (λ (v : Bool). not (v && is_role_well t)) (bodies_split t head p body s ∙ k)
    ∙ ap (λ (w : List ℕ). not (not (name_eq w w_role) || (not (is_some (body_trees t)) && is_empty (variables_in (item_head t).terms))))
    (ap (λ (q : Relation). q.word) (head_relation t head p body s))
    ∙ ap (λ (ts : Trees). not (not (name_eq p.word w_role) || (not (is_some ts) && is_empty (variables_in (item_head t).terms)))) s.bodies
    ∙ ap (λ (ns : List (List ℕ)). not (not (name_eq p.word w_role) || (not (is_some body) && is_empty ns))) (sym (variables_of_atom (head_tree t) a.0)
    ∙ ap variables s.heads)

pub facts_alone : {A : Type 0} (es : List (Expr A)) → (length es == 0) ≡ not (is_some (trees_of (trees_in es)))
facts_alone [] = refl
facts_alone (e ∷ es) = grind (arith, nat_tests)
