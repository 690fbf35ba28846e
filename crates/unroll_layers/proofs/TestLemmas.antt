-- Trees and names in memory, and what is tested of them.
use Rattle.std.proofs.Common.{ℕ, zero, suc, Bool, true, false, cond, ◌&&◌, ◌||◌, ◌≡◌, ◌<◌, ◌+◌, List, [], ◌∷◌, ◌++◌, map, filter, drop, length, get_or, refl, sym, ap, ◌∙◌, arith}
use Rattle.std.specs.Prelude.{Vec, count_by}
use Rattle.std.proofs.Common.{drop-cons}
use Rattle.std.proofs.lemmas.List.Sums.{length-filter}
use Rattle.std.specs.Borrow.{Bor}
use Rattle.std.specs.List.{list_all}
use Rattle.statement.specs.Tree.{Tree, name, list, trees_of, list_of}
use Rattle.statement.specs.Clause.{Atom, Relation, relation_of, relation_eq, count_trees, atom_eq}
use Rattle.statement.specs.Dependence.{is_among}
use Rattle.statement.specs.Items.{atom_in, body_trees, head_tree}
use Rattle.kif.specs.View.{tree_of, trees_in}
use Rattle.kif.specs.declared.expr.Expr.{Expr}
use Rattle.kif.proofs.Facts.{list_of-trees_of}
use Rattle.rules_profile.specs.Parts.{HasNoWord}
use Rattle.rules_relations.specs.Asking.{heads_it}
use Rattle.rules_relations.specs.Relations.{relation_in}
use Rattle.rules_relations.specs.declared.relation.Relation as memory
use Rattle.meaning.specs.Names.{name_in}
use Rattle.unroll_layers.specs.Naming.{repeats, words_in}
use Rattle.unroll_layers.specs.Kinds.{is_plain, is_single, is_own_atom, count_own, body_of, heads_one, is_too_many, is_unclear, is_count, is_of_kind}
use Rattle.unroll_layers.specs.Layering.{pairwise, pairwise_and_last, is_renamed, is_literal_of, is_item_of}
use Rattle.unroll_layers.specs.Listing.{trees_at}

-- Literals.

pub no_word_plain : (ts : List Tree) → HasNoWord ts → is_plain (list (trees_of ts)) ≡ false
no_word_plain [] h = refl
no_word_plain (name w ∷ ts) h = absurd (h w ts refl)
no_word_plain (list us ∷ ts) h = refl

pub no_word_single : (ts : List Tree) → HasNoWord ts → is_single (list (trees_of ts)) ≡ false
no_word_single [] h = refl
no_word_single (name w ∷ ts) h = absurd (h w ts refl)
no_word_single (list us ∷ ts) h = refl

count_parts : {A : Type 0} (es : List (Expr A)) → count_trees (trees_of (trees_in es)) ≡ length es
count_parts [] = refl
count_parts (e ∷ es) = ap suc (count_parts es)

-- the relation of an atom by its name and its terms
atom_relation : {A : Type 0} (a : Atom) (w : List ℕ) (es : List (Expr A)) → a ≡ record { word = w; terms = trees_of (trees_in es) }
    → record { word = w; arity = length es } ≡ relation_of a
atom_relation a w es e = sym (ap relation_of e ∙ ap (λ (n : ℕ). record { word = w; arity = n }) (count_parts es))

-- an atom that is plain is own where its relation is
pub own_atom : {A : Type 0} (own : List Relation) (t : Tree) (w : List ℕ) (es : List (Expr A)) (b : Bool)
    → atom_in t ≡ record { word = w; terms = trees_of (trees_in es) } → is_plain t ≡ true
    → b ≡ is_among (record { word = w; arity = length es }) own → b ≡ is_own_atom own t
own_atom own t w es b e plain h =
    h ∙ ap (λ (p : Relation). is_among p own) (atom_relation (atom_in t) w es e)
    ∙ ap (λ (c : Bool). c && is_among (relation_of (atom_in t)) own) (sym plain)

-- literals in memory are counted as trees
pub counted : {A : Type 0} (own : List Relation) (es : List (Expr A)) → count_by (λ e. is_own_atom own (tree_of e)) es ≡ count_own own (trees_in es)
counted {A} own es = sym (length-filter (λ e. is_own_atom own (tree_of {A = A} e)) es) ∙ go es
  where
    go : (es : List (Expr A)) → length (filter (λ e. is_own_atom own (tree_of e)) es) ≡ count_own own (trees_in es)
    go [] = refl
    go (e ∷ es) = one (is_own_atom own (tree_of e)) (go es)
      where
        one : (b : Bool) → length (filter (λ e. is_own_atom own (tree_of e)) es) ≡ count_own own (trees_in es)
            → length (cond b (e ∷ filter (λ e. is_own_atom own (tree_of e)) es) (filter (λ e. is_own_atom own (tree_of e)) es))
            ≡ length (cond b (tree_of e ∷ filter (is_own_atom own) (trees_in es)) (filter (is_own_atom own) (trees_in es)))
        one true k = ap suc k
        one false k = k

-- Items.

pub body_is : (t : Tree) (ts : List Tree) → body_trees t ≡ trees_of ts → body_of t ≡ ts
body_is t ts e = ap list_of e ∙ list_of-trees_of ts

pub not_single : (own : List Relation) (keeps : Bool) (t : Tree) (ts : List Tree) → body_trees t ≡ trees_of ts → heads_one own t ≡ true
    → list_all is_single ts ≡ false → true ≡ is_unclear own keeps t
not_single own keeps t ts e h s =
    let s' : list_all is_single (body_of t) ≡ false = ap (list_all is_single) (body_is t ts e) ∙ s in rw (h, s') refl

pub many_own : (own : List Relation) (keeps : Bool) (t : Tree) (ts : List Tree) (n : ℕ) → body_trees t ≡ trees_of ts → heads_one own t ≡ true
    → list_all is_single ts ≡ true → n ≡ count_own own ts → is_too_many keeps n ≡ is_unclear own keeps t
many_own own keeps t ts n e h s c =
    let s' : list_all is_single (body_of t) ≡ true = ap (list_all is_single) (body_is t ts e) ∙ s in
    let c' : n ≡ count_own own (body_of t) = c ∙ ap (count_own own) (sym (body_is t ts e)) in rw (h, s') (ap (is_too_many keeps) c')

pub kind_is : (own : List Relation) (p : Relation) (inner : Bool) (t : Tree) (ts : List Tree) (m : ℕ) → body_trees t ≡ trees_of ts → heads_it p t ≡ true
    → m ≡ count_own own ts → is_count inner m ≡ is_of_kind own p inner t
kind_is own p inner t ts m e h c =
    let c' : m ≡ count_own own (body_of t) = c ∙ ap (count_own own) (sym (body_is t ts e)) in rw h (ap (is_count inner) c')

-- Names.

no_name : (own : List Relation) (p : Relation) → name_in own [] p ≡ []
no_name [] p = refl
no_name (q ∷ own) p = refl

next_suc : {G : Type 0} (rs : List memory.Relation) (vs : List (Vec ℕ G)) (i : ℕ) (d : memory.Relation) (p : Relation) → i < length rs
    → relation_eq p (relation_in (get_or rs i d)) ≡ false
    → name_in (map relation_in (drop i rs)) (words_in (drop i vs)) p ≡ name_in (map relation_in (drop (suc i) rs)) (words_in (drop (suc i) vs)) p
next_suc [] vs i d p h e = absurd (omega arith)
next_suc (r ∷ rs) [] zero d p h e = sym (no_name (map relation_in rs) p)
next_suc (r ∷ rs) (v ∷ vs) zero d p h e = ap (λ (b : Bool). cond b v.items (name_in (map relation_in rs) (words_in vs) p)) e
next_suc (r ∷ rs) [] (suc i) d p h e =
    no_name (map relation_in (drop i rs)) p ∙ sym (no_name (map relation_in (drop (suc i) rs)) p)
next_suc (r ∷ rs) (v ∷ vs) (suc i) d p h e = next_suc rs vs i d p (let k : i < length rs = omega arith in k) e

-- a relation that is not the one at a place has the same name among those behind the place
pub next_name : {G : Type 0} (rs : List memory.Relation) (vs : List (Vec ℕ G)) (i : ℕ) (d : memory.Relation) (p : Relation) → i < length rs
    → relation_eq p (relation_in (get_or rs i d)) ≡ false
    → name_in (map relation_in (drop i rs)) (words_in (drop i vs)) p ≡ name_in (map relation_in (drop (i + 1) rs)) (words_in (drop (i + 1) vs)) p
next_name rs vs i d p h e =
    let one : suc i ≡ i + 1 = omega arith in
    next_suc rs vs i d p h e ∙ ap (λ (j : ℕ). name_in (map relation_in (drop j rs)) (words_in (drop j vs)) p) one

-- Relations that are known.

one_known : (p : Relation) (ps old new : List Relation) → is_among p old ≡ false
    → ((q : Relation) → is_among q new ≡ (is_among q old || relation_eq q p))
    → repeats (λ q. is_among q old) (p ∷ ps) ≡ repeats (λ q. is_among q new) ps
one_known p ps old new other more =
    ap (λ (b : Bool). b || repeats (λ q. is_among q old || relation_eq q p) ps) other
    ∙ ap (λ (f : Relation → Bool). repeats f ps) (λ i q. sym (more q) i)

-- the relation at a place, which is new, becomes known
pub next_known : (rs : List memory.Relation) (i : ℕ) (d : memory.Relation) (old new : List Relation) → i < length rs
    → is_among (relation_in (get_or rs i d)) old ≡ false
    → ((q : Relation) → is_among q new ≡ (is_among q old || relation_eq q (relation_in (get_or rs i d))))
    → repeats (λ q. is_among q old) (map relation_in (drop i rs)) ≡ repeats (λ q. is_among q new) (map relation_in (drop (i + 1) rs))
next_known rs i d old new h other more =
    let one : suc i ≡ i + 1 = omega arith in
    ap (λ (xs : List memory.Relation). repeats (λ q. is_among q old) (map relation_in xs)) (drop-cons rs i d h)
    ∙ one_known (relation_in (get_or rs i d)) (map relation_in (drop (suc i) rs)) old new other more
    ∙ ap (λ (j : ℕ). repeats (λ q. is_among q new) (map relation_in (drop j rs))) one

-- Pairs.

pub lengths_differ : (test : Tree → Tree → Bool) (ts us : List Tree) → (length ts ≡ length us → ⊥) → pairwise test ts us ≡ false
lengths_differ test [] [] d = absurd (d refl)
lengths_differ test [] (u ∷ us) d = refl
lengths_differ test (t ∷ ts) [] d = refl
lengths_differ test (t ∷ ts) (u ∷ us) d = ap (λ (b : Bool). test t u && b) (lengths_differ test ts us (λ e. d (ap suc e))) ∙ and_false (test t u)
  where
    and_false : (b : Bool) → (b && false) ≡ false
    and_false true = refl
    and_false false = refl

pub count_in : {A : Type 0} (es : List (Expr A)) → length (trees_in es) ≡ length es
count_in [] = refl
count_in (e ∷ es) = ap suc (count_in es)

pub count_at : {A : Type 0} (es : List (Bor (Expr A))) → length (trees_at es) ≡ length es
count_at [] = refl
count_at (e ∷ es) = ap suc (count_at es)

-- Both of two tests.

pub both_hold : (a b r : Bool) → a ≡ true → r ≡ b → r ≡ (a && b)
both_hold true b r e h = h
both_hold false b r e h = absurd (let bad : ⊥ = cc in bad)

pub first_fails : (a b r : Bool) → r ≡ a → a ≡ false → r ≡ (a && b)
first_fails true b r h e = absurd (let bad : ⊥ = cc in bad)
first_fails false b r h e = h

-- the atom in a layer, by the name and the terms
pub renamed_is : {A : Type 0} (own : List Relation) (names : List (List ℕ)) (t u : Tree) (w n : List ℕ) (es : List (Expr A))
    → atom_in t ≡ record { word = w; terms = trees_of (trees_in es) } → n ≡ name_in own names (record { word = w; arity = length es })
    → atom_eq (atom_in u) (record { word = n; terms = trees_of (trees_in es) }) ≡ is_renamed own names (atom_in t) u
renamed_is own names t u w n es e h =
    let k : n ≡ name_in own names (relation_of (atom_in t)) = h ∙ ap (name_in own names) (atom_relation (atom_in t) w es e) in
    λ i. atom_eq (atom_in u) (record { word = k i; terms = sym (ap (λ (a : Atom). a.terms) e) i })

pub item_is : (own : List Relation) (names before : List (List ℕ)) (t u h g : Tree) (ts us : List Tree) → head_tree t ≡ h → head_tree u ≡ g
    → body_trees t ≡ trees_of ts → body_trees u ≡ trees_of us
    → (is_renamed own names (atom_in h) g && pairwise (is_literal_of own before) ts us) ≡ is_item_of own names before t u
item_is own names before t u h g ts us e f b c =
    λ i. is_renamed own names (atom_in (sym e i)) (sym f i) && pairwise (is_literal_of own before) (sym (body_is t ts b) i) (sym (body_is u us c) i)

-- Pairs and a last one.

pub none_last : (test : Tree → Tree → Bool) (last : Tree → Bool) (ts : List Tree) → pairwise_and_last test last ts [] ≡ false
none_last test last [] = refl
none_last test last (t ∷ ts) = refl

apart_last : (test : Tree → Tree → Bool) (last : Tree → Bool) (ts us : List Tree) (v : Tree)
    → (last v && pairwise test ts us) ≡ pairwise_and_last test last ts (us ++ v ∷ [])
apart_last test last [] [] v = one (last v)
  where
    one : (b : Bool) → (b && true) ≡ b
    one true = refl
    one false = refl
apart_last test last [] (u ∷ us) v = none (last v) ∙ more us
  where
    none : (b : Bool) → (b && false) ≡ false
    none true = refl
    none false = refl

    more : (us : List Tree) → false ≡ pairwise_and_last test last [] (u ∷ (us ++ v ∷ []))
    more [] = refl
    more (w ∷ us) = refl
apart_last test last (t ∷ ts) [] v = none (last v) (test t v) ∙ ap (λ (b : Bool). test t v && b) (sym (none_last test last ts))
  where
    none : (b c : Bool) → (b && false) ≡ (c && false)
    none true true = refl
    none true false = refl
    none false true = refl
    none false false = refl
apart_last test last (t ∷ ts) (u ∷ us) v =
    swap (last v) (test t u) (pairwise test ts us) ∙ ap (λ (b : Bool). test t u && b) (apart_last test last ts us v)
  where
    swap : (a b c : Bool) → (a && (b && c)) ≡ (b && (a && c))
    swap true b c = refl
    swap false true c = refl
    swap false false c = refl

trees_behind : {A : Type 0} (es : List (Bor (Expr A))) (e : Bor (Expr A)) → trees_at (es ++ e ∷ []) ≡ trees_at es ++ tree_of e.now ∷ []
trees_behind [] e = refl
trees_behind {A} (d ∷ es) e = ap (λ (ts : List Tree). tree_of {A = A} d.now ∷ ts) (trees_behind es e)

pub empty_last : {A : Type 0} (test : Tree → Tree → Bool) (last : Tree → Bool) (ts : List Tree) (es : List (Bor (Expr A))) → length es ≡ 0
    → pairwise_and_last test last ts (trees_at es) ≡ false
empty_last test last ts [] h = none_last test last ts
empty_last test last ts (e ∷ es) h = absurd (let bad : ⊥ = cc in bad)

-- the same of references, of which the last is taken from the others
pub kept_is : {A : Type 0} (test : Tree → Tree → Bool) (last : Tree → Bool) (ts : List Tree) (es : List (Bor (Expr A)))
    (e : Bor (Expr A)) (fs : List (Bor (Expr A))) → es ≡ fs ++ e ∷ []
    → (last (tree_of e.now) && pairwise test ts (trees_at fs)) ≡ pairwise_and_last test last ts (trees_at es)
kept_is test last ts es e fs h =
    apart_last test last ts (trees_at fs) (tree_of e.now)
    ∙ ap (pairwise_and_last test last ts) (sym (trees_behind fs e) ∙ ap trees_at (sym h))
