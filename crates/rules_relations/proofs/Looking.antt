-- A test that holds of some element of a list.
use Rattle.std.proofs.Common.{ℕ, zero, suc, Bool, true, false, ◌≡◌, ◌<◌, ◌≤◌, ◌+◌, List, [], ◌∷◌, ◌++◌, drop, length, get_or, refl, sym, ap, ◌∙◌}
use Rattle.std.proofs.Common.{subst, ◌⊎◌, inl, inr}
use Rattle.std.specs.Prelude.{cond, not, ◌&&◌, ◌||◌, ◌==◌}
use Rattle.statement.specs.Tree.{Tree, name, list, Trees, no_trees, tree, trees_of, name_eq}
use Rattle.statement.specs.Words.{w_or, w_and, w_not, w_distinct}
use Rattle.statement.specs.Clause.{Atom, Literal, positive, Relation, relation_of, relation_eq, atom_of, count_trees}
use Rattle.statement.specs.Dependence.{is_distinct}
use Rattle.statement.specs.Safety.{is_name_in, variables_in}
use Rattle.statement.specs.Items.{atom_in, negated}
use Rattle.kif.specs.View.{tree_of, trees_in}
use Rattle.kif.specs.declared.expr.Expr.{Expr}
use Rattle.kif.specs.declared.expr.Expr.TheVariants.{Name}
use Rattle.std.specs.Prelude.{Vec}
use Rattle.kif.proofs.Facts.{parts_from, no_parts, tree_of-Name}
use Rattle.rules_profile.specs.Parts.{HasNoWord}
use Rattle.rules_profile.specs.Connectives.{IsNoConnective, IsConnectiveOf}
use Rattle.rules_profile.specs.declared.forms.Connective.{Connective}
use Rattle.rules_profile.specs.declared.forms.Connective.TheVariants as words
use Rattle.rules_profile.specs.Standing.{literals_in, literals_of_list, literals_of_all}
use Rattle.rules_relations.specs.declared.probe.Probe.TheVariants as kinds
use Rattle.rules_relations.specs.Probes.{some_of, passes, literal_of, literal_as, binds_in}
use Rattle.rules_relations.specs.Asking.{some_item}

-- A test of a list that holds where it holds of one of the trees.

pub one_holds : {A : Type 0} (whole : Trees → Bool) (one : Tree → Bool) → ((t : Tree) (ts : Trees) → whole (tree t ts) ≡ (one t || whole ts))
    → (es : List (Expr A)) (i : ℕ) (e : Expr A) → i < length es → e ≡ get_or es i e → one (tree_of e) ≡ true
    → whole (trees_of (trees_in (drop i es))) ≡ true
one_holds whole one step es i e h same p =
    ap (λ (ts : List Tree). whole (trees_of ts)) (parts_from es i e h same)
    ∙ step (tree_of e) (trees_of (trees_in (drop (i + 1) es)))
    ∙ ap (λ (b : Bool). b || whole (trees_of (trees_in (drop (i + 1) es)))) p

pub one_fails : {A : Type 0} (whole : Trees → Bool) (one : Tree → Bool) → ((t : Tree) (ts : Trees) → whole (tree t ts) ≡ (one t || whole ts))
    → (es : List (Expr A)) (i : ℕ) (e : Expr A) → i < length es → e ≡ get_or es i e → one (tree_of e) ≡ false
    → whole (trees_of (trees_in (drop i es))) ≡ whole (trees_of (trees_in (drop (i + 1) es)))
one_fails whole one step es i e h same p =
    ap (λ (ts : List Tree). whole (trees_of ts)) (parts_from es i e h same)
    ∙ step (tree_of e) (trees_of (trees_in (drop (i + 1) es)))
    ∙ ap (λ (b : Bool). b || whole (trees_of (trees_in (drop (i + 1) es)))) p

pub none_holds : {A : Type 0} (whole : Trees → Bool) → whole no_trees ≡ false → (es : List (Expr A)) (i : ℕ) → length es ≤ i
    → whole (trees_of (trees_in (drop i es))) ≡ false
none_holds whole done es i h = ap (λ (ts : List Tree). whole (trees_of ts)) (no_parts es i h) ∙ done

count_parts : {A : Type 0} (es : List (Expr A)) → count_trees (trees_of (trees_in es)) ≡ length es
count_parts [] = refl
count_parts (e ∷ es) = ap suc (count_parts es)

-- the name and the terms of an atom

pub atom_word : {A : Type 0} (t : Tree) (w : List ℕ) (rest : List (Expr A)) → t ≡ list (tree (name w) (trees_of (trees_in rest)))
    → atom_in t ≡ record { word = w; terms = trees_of (trees_in rest) }
atom_word t w rest e = ap atom_in e

pub no_atom : (t : Tree) (ts : List Tree) → t ≡ list (trees_of ts) → HasNoWord ts → atom_in t ≡ record { word = []; terms = no_trees }
no_atom t ts e h = ap atom_in e ∙ go ts h
  where
    go : (us : List Tree) → HasNoWord us → atom_in (list (trees_of us)) ≡ record { word = []; terms = no_trees }
    go [] k = refl
    go (name w ∷ us) k = absurd (k w us refl)
    go (list vs ∷ us) k = refl

pub atom_name : {A : Type 0} (e : Expr A) (n : Vec ℕ A) → e ≡ Name n → atom_in (tree_of e) ≡ record { word = n.items; terms = no_trees }
atom_name {A} e n h = ap atom_in (ap (tree_of {A = A}) h ∙ tree_of-Name n)

pub head_relation : {A : Type 0} (a : Atom) (w : List ℕ) (es : List (Expr A)) → a ≡ record { word = w; terms = trees_of (trees_in es) }
    → record { word = w; arity = length es } ≡ relation_of a
head_relation a w es e = sym (ap relation_of e ∙ ap (λ (n : ℕ). record { word = w; arity = n }) (count_parts es))

-- Literals.

atom_as : (b : Bool) (a : Atom) → atom_of (literal_as b a) ≡ a
atom_as true a = refl
atom_as false a = refl

pub relation_passes : {A : Type 0} (r : Bool) (w wanted : List ℕ) (n : ℕ) (es : List (Expr A)) (b : Bool)
    → r ≡ relation_eq (record { word = w; arity = length es }) (record { word = wanted; arity = n })
    → r ≡ passes kinds.Relation wanted n (literal_of b w (trees_of (trees_in es)))
relation_passes r w wanted n es b h =
    h
    ∙ ap (λ (k : ℕ). relation_eq (record { word = w; arity = k }) (record { word = wanted; arity = n })) (sym (count_parts es))
    ∙ ap (λ (a : Atom). relation_eq (relation_of a) (record { word = wanted; arity = n })) (sym (atom_as b (record { word = w; terms = trees_of (trees_in es) })))

binding_as : (b d h : Bool) (a : Atom) (v : List ℕ) → d ≡ is_distinct (relation_of a) → h ≡ is_name_in v (variables_in a.terms)
    → (not b && (not d && h)) ≡ binds_in v (literal_as b a)
binding_as true d h a v e f = refl
binding_as false d h a v e f = ap (λ (x : Bool). not x && h) e ∙ ap (λ (x : Bool). not (is_distinct (relation_of a)) && x) f

pub variable_passes : {A : Type 0} (r d h : Bool) (w v : List ℕ) (n : ℕ) (es : List (Expr A)) (b : Bool)
    → d ≡ relation_eq (record { word = w; arity = length es }) (record { word = w_distinct; arity = 2 })
    → h ≡ is_name_in v (variables_in (trees_of (trees_in es)))
    → r ≡ (not b && (not d && h)) → r ≡ passes kinds.Variable v n (literal_of b w (trees_of (trees_in es)))
variable_passes r d h w v n es b e f g =
    let a : Atom = record { word = w; terms = trees_of (trees_in es) } in
    let e' : d ≡ is_distinct (relation_of a) =
    e ∙ ap (λ (k : ℕ). is_distinct (record { word = w; arity = k })) (sym (count_parts es)) in
    g ∙ binding_as b d h a v e' f

-- the literals of a list

pub none_there : (ts : List Tree) → HasNoWord ts → literals_in (list (trees_of ts)) ≡ []
none_there [] h = refl
none_there (name w ∷ ts) h = absurd (h w ts refl)
none_there (list us ∷ ts) h = refl

or_word : (w : List ℕ) (rest : Trees) → w ≡ w_or → literals_in (list (tree (name w) rest)) ≡ literals_of_all rest
or_word w rest h = rw h refl

and_word : (w : List ℕ) (rest : Trees) → w ≡ w_and → literals_in (list (tree (name w) rest)) ≡ literals_of_all rest
and_word w rest h = rw h refl

not_word : (w : List ℕ) (rest : Trees) → w ≡ w_not → literals_in (list (tree (name w) rest)) ≡ negated rest ∷ []
not_word w rest h = rw h refl

plain_word : (w : List ℕ) (rest : Trees) → IsNoConnective w
    → literals_in (list (tree (name w) rest)) ≡ positive (record { word = w; terms = rest }) ∷ []
plain_word w rest h = rw (h.no_or, h.no_and, h.no_not) refl

only : (b : Bool) → (b || false) ≡ b
only true = refl
only false = refl

pub joined : (test : Literal → Bool) (t : Tree) (w : List ℕ) (rest : Trees) (r : Bool) (kind : Connective) → t ≡ list (tree (name w) rest)
    → IsConnectiveOf w kind → (kind ≡ words.Or) ⊎ (kind ≡ words.And) → r ≡ some_of test (literals_of_all rest)
    → r ≡ some_of test (literals_in t)
joined test t w rest r kind e is (inl k) h =
    h ∙ ap (some_of test) (sym (ap literals_in e ∙ or_word w rest (subst (IsConnectiveOf w) k is)))
joined test t w rest r kind e is (inr k) h =
    h ∙ ap (some_of test) (sym (ap literals_in e ∙ and_word w rest (subst (IsConnectiveOf w) k is)))

pub refused : (test : Literal → Bool) (t : Tree) (w : List ℕ) (rest : Trees) (r : Bool) → t ≡ list (tree (name w) rest)
    → w ≡ w_not → r ≡ test (negated rest) → r ≡ some_of test (literals_in t)
refused test t w rest r e is h = h ∙ sym (only (test (negated rest))) ∙ ap (some_of test) (sym (ap literals_in e ∙ not_word w rest is))

pub alone : (test : Literal → Bool) (t : Tree) (w : List ℕ) (rest : Trees) (r : Bool) → t ≡ list (tree (name w) rest)
    → IsNoConnective w → r ≡ test (positive (atom_in t)) → r ≡ some_of test (literals_in t)
alone test t w rest r e is h =
    h ∙ ap (λ (u : Tree). test (positive (atom_in u))) e
    ∙ sym (only (test (positive (record { word = w; terms = rest }))))
    ∙ ap (some_of test) (sym (ap literals_in e ∙ plain_word w rest is))

or_assoc : (a b c : Bool) → ((a || b) || c) ≡ (a || (b || c))
or_assoc true b c = refl
or_assoc false b c = refl

pub some_append : (test : Literal → Bool) (xs ys : List Literal) → some_of test (xs ++ ys) ≡ (some_of test xs || some_of test ys)
some_append test [] ys = refl
some_append test (x ∷ xs) ys = ap (λ (b : Bool). test x || b) (some_append test xs ys) ∙ sym (or_assoc (test x) (some_of test xs) (some_of test ys))

pub name_append : (n : List ℕ) (xs ys : List (List ℕ)) → is_name_in n (xs ++ ys) ≡ (is_name_in n xs || is_name_in n ys)
name_append n [] ys = refl
name_append n (x ∷ xs) ys = ap (λ (b : Bool). name_eq n x || b) (name_append n xs ys) ∙ sym (or_assoc (name_eq n x) (is_name_in n xs) (is_name_in n ys))

-- Items at places.

trees_in_behind : {A : Type 0} (n : ℕ) (es : List (Expr A)) → trees_in (drop n es) ≡ drop n (trees_in es)
trees_in_behind zero es = refl
trees_in_behind (suc n) [] = refl
trees_in_behind (suc n) (e ∷ es) = trees_in_behind n es

-- the item at a place is the first of those behind the others
pub item_there : {A : Type 0} (es : List (Expr A)) (n : ℕ) (e : Expr A) → n < length es → e ≡ get_or es n e
    → drop n (trees_in es) ≡ tree_of e ∷ trees_in (drop (n + 1) es)
item_there es n e within is = sym (trees_in_behind n es) ∙ parts_from es n e within is

pub item_holds : {A : Type 0} (test : Tree → Bool) (es : List (Expr A)) (i : ℕ) (e : Expr A) → i < length es → e ≡ get_or es i e
    → test (tree_of e) ≡ true → some_item test (trees_in (drop i es)) ≡ true
item_holds test es i e h same p =
    ap (some_item test) (parts_from es i e h same) ∙ ap (λ (b : Bool). b || some_item test (trees_in (drop (i + 1) es))) p

pub item_fails : {A : Type 0} (test : Tree → Bool) (es : List (Expr A)) (i : ℕ) (e : Expr A) → i < length es → e ≡ get_or es i e
    → test (tree_of e) ≡ false → some_item test (trees_in (drop i es)) ≡ some_item test (trees_in (drop (i + 1) es))
item_fails test es i e h same p =
    ap (some_item test) (parts_from es i e h same) ∙ ap (λ (b : Bool). b || some_item test (trees_in (drop (i + 1) es))) p

pub name_alone : {A : Type 0} (test : Literal → Bool) (e : Expr A) (n : Vec ℕ A) (r : Bool) → e ≡ Name n
    → r ≡ test (literal_as false (atom_in (tree_of e))) → r ≡ some_of test (literals_in (tree_of e))
name_alone {A} test e n r is h =
    let here : tree_of e ≡ name n.items = ap (tree_of {A = A}) is ∙ tree_of-Name n in
    h ∙ ap (λ (t : Tree). test (positive (atom_in t))) here ∙ sym (only (test (positive (atom_in (name n.items)))))
    ∙ ap (λ (t : Tree). some_of test (literals_in t)) (sym here)
