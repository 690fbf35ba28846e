-- The context by numbers, one step after the other.
use Rattle.std.proofs.Common.{
  ℕ,
  zero,
  suc,
  Bool,
  true,
  false,
  cond,
  ◌==◌,
  All,
  ◌<◌,
  ◌≤◌,
  ◌+◌,
  ◌≡◌,
  List,
  [],
  ◌∷◌,
  ◌++◌,
  length,
  map,
  drop,
  get_or,
  append_assoc,
  refl,
  sym,
  ap,
  subst,
  ◌∙◌,
  arith,
  Vec,
}
use Rattle.std.proofs.lemmas.List.{map-append, length-map}
use Rattle.std.proofs.lemmas.List.Sorted.{All-permutation}
use Rattle.statement.specs.Tree.{Tree}
use Rattle.statement.specs.Clause.{Atom}
use Rattle.ground_terms.specs.declared.naming.Named.{Named}
use Rattle.ground_terms.specs.Arena.{Held}
use Rattle.ground_rows.specs.Contexts.{AreAllNamed, inputs_of_roles, terms_named, moves_by, atoms_by}
use Rattle.ground_terms.specs.Vectors.{items_of}
use Rattle.ground_terms.specs.Stated.{one_of, one_part, second_of, second_part, only_parts, second_parts}
use Rattle.rules.specs.declared.rule_set.Keywords.{Keywords}
use Rattle.ground_terms.specs.Dropping.{AreListsBelow}
use Rattle.rules_clauses.specs.Numbers.{BeginsWith, word_at}
use Rattle.ground_terms.specs.Atoms.{WordTerms, AddsAtoms}
use Rattle.rules_clauses.specs.Marks.{NumbersBelow}
use Rattle.ground_terms.specs.Keys.{AreKeys, IsKey, term_at, trees}
use Rattle.util_interner.specs.KeyLists.{key_at}
use Rattle.statement.specs.Meaning.{atom1, atom2}
use Rattle.ground_terms.specs.Naming.{AreNamed}
use Rattle.ground_rows.proofs.ContextSteps.{atoms_both}
use Rattle.ground_terms.proofs.Facts.{
  front_itself,
  front_trans,
  front_length,
  trees_front,
  term_front,
  terms_front,
  below_more,
  below_append,
  length_trees,
  number_next,
  grown_itself,
  at_place,
  at_end,
}

append_nil : {A : Type 0} (xs : List A) → xs ++ [] ≡ xs
append_nil [] = refl
append_nil {A} (x ∷ xs) = ap (λ (l : List A). x ∷ l) (append_nil xs)

-- Lists of terms are named.

-- whatever names stand for the lists behind, all are named
pub AreNamedUpTo : List Tree → List (List ℕ) → List (List ℕ) → List (List Named) → Type 0
AreNamedUpTo terms all rest done = (more : List (List Named)) → AreAllNamed terms rest more → AreAllNamed terms all (done ++ more)

pub naming_begins : (terms : List Tree) (all : List (List ℕ)) → AreNamedUpTo terms all all []
unfolding AreNamedUpTo
naming_begins terms all = λ more h. h

pub naming_next : (terms : List Tree) (all : List (List ℕ)) (ms : List ℕ) (rest : List (List ℕ)) (done : List (List Named)) (ns : List Named)
    → AreNamedUpTo terms all (ms ∷ rest) done → AreNamed terms ms ns → AreNamedUpTo terms all rest (done ++ ns ∷ [])
unfolding AreNamedUpTo
naming_next terms all ms rest done ns h n = λ more k. subst (λ (l : List (List Named)). AreAllNamed terms all l)
    (sym (append_assoc done (ns ∷ []) more)) (h (ns ∷ more) (n, k))

pub naming_ends : (terms : List Tree) (all : List (List ℕ)) (done : List (List Named)) → AreNamedUpTo terms all [] done → AreAllNamed terms all done
unfolding AreNamedUpTo
naming_ends terms all done h = subst (λ (l : List (List Named)). AreAllNamed terms all l) (append_nil done) (h [] tt)

-- The atoms of each role are numbered one after the other.

pub record AddingMoves (old now : Held) (before after : List ℕ) (word : ℕ) (all : List ℕ) (lists : List (List ℕ)) (rest : List ℕ)
    (rests : List (List ℕ)) : Type 0 where
  pub front : BeginsWith old.keys now.keys
  pub sizes : now.sizes ≡ old.sizes
  pub below : NumbersBelow (length old.keys) rest
  pub each : AreListsBelow (length old.keys) rests
  pub adds : (words : List (List ℕ)) → WordTerms words old → (done : List Atom) × (AddsAtoms words old now before after done
      × (moves_by (word_at words word) (trees words old.keys) all lists ≡ done ++ moves_by (word_at words word) (trees words old.keys) rest rests))

pub moves_begin : (held : Held) (atoms : List ℕ) (word : ℕ) (all : List ℕ) (lists : List (List ℕ)) → NumbersBelow (length held.keys) all
    → AreListsBelow (length held.keys) lists
    → AddingMoves held held atoms atoms word all lists all lists
moves_begin held atoms word all lists b e = record {
  front = front_itself held.keys;
  sizes = refl;
  below = b;
  each = e;
  adds = λ words t. ([], (record { grown = grown_itself words held t; numbers = []; same = refl; are = record { below = tt; same = refl } }, refl));
}

-- the atoms of one role, over the terms before
moves_stay : (words : List (List ℕ)) (old now : Held) (w : List ℕ) (r : ℕ) (ms : List ℕ) → BeginsWith old.keys now.keys → r < length old.keys
    → NumbersBelow (length old.keys) ms
    → map (λ t. atom2 w (term_at (trees words now.keys) r) t) (map (term_at (trees words now.keys)) ms) ≡ map
    (λ t. atom2 w (term_at (trees words old.keys) r) t) (map (term_at (trees words old.keys)) ms)
moves_stay words old now w r ms f h b =
    let long = length_trees words [] old.keys in
    let front = trees_front words old.keys now.keys f in
    let wide : NumbersBelow (length (trees words old.keys)) ms = below_more (length old.keys) (length (trees words old.keys)) ms (omega (arith, long)) b
    in
    ap (λ (x : Tree). map (λ (t : Tree). atom2 w x t) (map (term_at (trees words now.keys)) ms))
    (term_front (trees words old.keys) (trees words now.keys) front r (omega (arith, h, long)))
    ∙ ap (λ (ts : List Tree). map (λ (t : Tree). atom2 w (term_at (trees words old.keys) r) t) ts)
    (terms_front (trees words old.keys) (trees words now.keys) front ms wide)

pub moves_next : (old now new : Held) (before after more : List ℕ) (word : ℕ) (all : List ℕ) (lists : List (List ℕ)) (r : ℕ) (rest ms : List ℕ)
    (rests : List (List ℕ))
    → AddingMoves old now before after word all lists (r ∷ rest) (ms ∷ rests) → BeginsWith now.keys new.keys → new.sizes ≡ now.sizes
    → ((words : List (List ℕ)) → WordTerms words now
    → AddsAtoms words now new after more (map (λ t. atom2 (word_at words word) (term_at (trees words now.keys) r) t)
    (map (term_at (trees words now.keys)) ms)))
    → AddingMoves old new before more word all lists rest rests
moves_next old now new before after more word all lists r rest ms rests s front sizes adds = record {
  front = front_trans old.keys now.keys new.keys s.front front;
  sizes = sizes ∙ s.sizes;
  below = s.below.1;
  each = s.each.1;
  adds = λ words t.
      let d = s.adds words t in
      let here = d.1.0 in
      let own = map (λ (x : Tree). atom2 (word_at words word) (term_at (trees words old.keys) r) x) (map (term_at (trees words old.keys)) ms) in
      let next = subst (λ (xs : List Atom). AddsAtoms words now new after more xs)
      (moves_stay words old now (word_at words word) r ms s.front s.below.0 s.each.0) (adds words here.grown.terms) in (
        d.0 ++ own,
        (
          atoms_both words old now new before after more d.0 own here next,
          d.1.1 ∙ sym (append_assoc d.0 own (moves_by (word_at words word) (trees words old.keys) rest rests)),
        ),
      );
}

-- Over what vectors hold.

items_next : {A G : Type 0} (vs : List (Vec A G)) (i : ℕ) (v : Vec A G) (ms : List A) → i < length vs → v ≡ get_or vs i v → ms ≡ v.items
    → items_of (drop i vs) ≡ ms ∷ items_of (drop (i + 1) vs)
items_next {A} {G} vs i v ms h e k = ap (λ (l : List (Vec A G)). items_of l) (at_place vs vs i v refl h e)
    ∙ ap (λ (l : List A). l ∷ items_of (drop (i + 1) vs)) (sym k)

pub lists_next : {G : Type 0} (n : ℕ) (vs : List (Vec ℕ G)) (i : ℕ) (v : Vec ℕ G) → i < length vs → v ≡ get_or vs i v
    → AreListsBelow n (items_of (drop i vs)) → AreListsBelow n (items_of (drop (i + 1) vs))
lists_next n vs i v h e b = (subst (λ (l : List (List ℕ)). AreListsBelow n l) (items_next vs i v v.items h e refl) b).1

pub names_begin : {H : Type 0} (terms : List Tree) (all : List (List ℕ)) (done : List (Vec Named H)) → done ≡ []
    → AreNamedUpTo terms all all (items_of done)
names_begin {H} terms all done e = subst (λ (l : List (Vec Named H)). AreNamedUpTo terms all all (items_of l)) (sym e) (naming_begins terms all)

pub names_next : {G H : Type 0} (terms : List Tree) (all : List (List ℕ)) (vs : List (Vec ℕ G)) (i : ℕ) (v : Vec ℕ G) (ms : List ℕ)
    (done more : List (Vec Named H)) (new : Vec Named H) → i < length vs → v ≡ get_or vs i v → ms ≡ v.items
    → AreNamedUpTo terms all (items_of (drop i vs)) (items_of done) → AreNamed terms ms new.items → more ≡ done ++ new ∷ []
    → AreNamedUpTo terms all (items_of (drop (i + 1) vs)) (items_of more)
names_next {G} {H} terms all vs i v ms done more new h e k s n m =
    subst (λ (l : List (List Named)). AreNamedUpTo terms all (items_of (drop (i + 1) vs)) l)
    (sym (ap (λ (l : List (Vec Named H)). items_of l) m ∙ map-append (λ (x : Vec Named H). x.items) done (new ∷ [])))
    (naming_next terms all ms (items_of (drop (i + 1) vs)) (items_of done) new.items
    (subst (λ (l : List (List ℕ)). AreNamedUpTo terms all l (items_of done)) (items_next vs i v ms h e k) s) n)

pub names_end : {G H : Type 0} (terms : List Tree) (all : List (List ℕ)) (vs : List (Vec ℕ G)) (i : ℕ) (done : List (Vec Named H)) → length vs ≤ i
    → AreNamedUpTo terms all (items_of (drop i vs)) (items_of done) → AreAllNamed terms all (items_of done)
names_end {G} {H} terms all vs i done h s =
    naming_ends terms all (items_of done) (subst (λ (l : List (Vec ℕ G)). AreNamedUpTo terms all (items_of l) (items_of done)) (at_end vs vs i refl h)
    s)

moves_here : {G : Type 0} (old now : Held) (before after : List ℕ) (word : ℕ) (all : List ℕ) (lists : List (List ℕ)) (roles : List ℕ)
    (vs : List (Vec Named G)) (i : ℕ) (v : Vec Named G) (named : List Named)
    → i < length roles → length vs ≡ length roles → v ≡ get_or vs i v → named ≡ v.items
    → AddingMoves old now before after word all lists (drop i roles) (map terms_named (items_of (drop i vs)))
    → AddingMoves old now before after word all lists (get_or roles i 0 ∷ drop (i + 1) roles)
    (terms_named named ∷ map terms_named (items_of (drop (i + 1) vs)))
moves_here old now before after word all lists roles vs i v named h long e k s =
    subst (λ (ns : List ℕ). AddingMoves old now before after word all lists ns (terms_named named ∷ map terms_named (items_of (drop (i + 1) vs))))
    (number_next roles roles i refl h)
    (subst (λ (l : List (List Named)). AddingMoves old now before after word all lists (drop i roles) (map terms_named l))
    (items_next vs i v named (omega (arith, h, long)) e k) s)

pub moves_fit : {G : Type 0} (old now : Held) (before after : List ℕ) (word : ℕ) (all : List ℕ) (lists : List (List ℕ)) (roles : List ℕ)
    (vs : List (Vec Named G)) (i : ℕ) (v : Vec Named G) (named : List Named)
    → i < length roles → length vs ≡ length roles → v ≡ get_or vs i v → named ≡ v.items
    → AddingMoves old now before after word all lists (drop i roles) (map terms_named (items_of (drop i vs)))
    → NumbersBelow (length now.keys) (terms_named named)
moves_fit old now before after word all lists roles vs i v named h long e k s =
    let here = moves_here old now before after word all lists roles vs i v named h long e k s in
    below_more (length old.keys) (length now.keys) (terms_named named) (front_length old.keys now.keys here.front) here.each.0

pub moves_step : {G : Type 0} (old now new : Held) (before after more : List ℕ) (word : ℕ) (all : List ℕ) (lists : List (List ℕ)) (roles : List ℕ)
    (vs : List (Vec Named G)) (i : ℕ) (v : Vec Named G) (named : List Named)
    → i < length roles → length vs ≡ length roles → v ≡ get_or vs i v → named ≡ v.items
    → AddingMoves old now before after word all lists (drop i roles) (map terms_named (items_of (drop i vs))) → BeginsWith now.keys new.keys
    → new.sizes ≡ now.sizes
    → ((words : List (List ℕ)) → WordTerms words now
    → AddsAtoms words now new after more (map (λ t. atom2 (word_at words word) (term_at (trees words now.keys) (get_or roles i 0)) t)
    (map (term_at (trees words now.keys)) (terms_named named))))
    → AddingMoves old new before more word all lists (drop (i + 1) roles) (map terms_named (items_of (drop (i + 1) vs)))
moves_step old now new before after more word all lists roles vs i v named h long e k s front sizes adds =
    moves_next old now new before after more word all lists (get_or roles i 0) (drop (i + 1) roles) (terms_named named)
    (map terms_named (items_of (drop (i + 1) vs)))
    (moves_here old now before after word all lists roles vs i v named h long e k s) front sizes adds

-- The moves behind the base propositions.

pub moves_front : (words : List (List ℕ)) (old now : Held) (w : List ℕ) → BeginsWith old.keys now.keys → (rs : List ℕ) (lists : List (List ℕ))
    → NumbersBelow (length old.keys) rs → AreListsBelow (length old.keys) lists
    → moves_by w (trees words now.keys) rs lists ≡ moves_by w (trees words old.keys) rs lists
moves_front words old now w f [] lists b e = refl
moves_front words old now w f (r ∷ rs) [] b e = refl
moves_front words old now w f (r ∷ rs) (ms ∷ lists) b e =
    ap (λ (l : List Atom). l ++ moves_by w (trees words now.keys) rs lists) (moves_stay words old now w r ms f b.0 e.0)
    ∙ ap (λ (l : List Atom). map (λ t. atom2 w (term_at (trees words old.keys) r) t) (map (term_at (trees words old.keys)) ms) ++ l)
    (moves_front words old now w f rs lists b.1 e.1)

pub lists_more : (m n : ℕ) (lists : List (List ℕ)) → m ≤ n → AreListsBelow m lists → AreListsBelow n lists
lists_more m n [] h b = tt
lists_more m n (ms ∷ lists) h b = (below_more m n ms h b.0, lists_more m n lists h b.1)

pub roles_later : (old now : Held) (rs ms : List ℕ) → ms ≡ rs → BeginsWith old.keys now.keys → NumbersBelow (length old.keys) rs
    → NumbersBelow (length now.keys) ms
roles_later old now rs ms e f b = subst (λ (l : List ℕ). NumbersBelow (length now.keys) l) (sym e)
    (below_more (length old.keys) (length now.keys) rs (front_length old.keys now.keys f) b)

pub lists_later : (old now : Held) (lists : List (List ℕ)) → BeginsWith old.keys now.keys → AreListsBelow (length old.keys) lists
    → AreListsBelow (length now.keys) lists
lists_later old now lists f b = lists_more (length old.keys) (length now.keys) lists (front_length old.keys now.keys f) b

pub moves_behind : (words : List (List ℕ)) (old now new : Held) (before after more : List ℕ) (k : Keywords) (rs ms base : List ℕ)
    (lists : List (List ℕ)) → ms ≡ rs
    → BeginsWith old.keys now.keys → NumbersBelow (length old.keys) rs → AreListsBelow (length old.keys) lists
    → AddsAtoms words old now before after (map (λ t. atom1 (word_at words k.now) t) (map (term_at (trees words old.keys)) base))
    → (WordTerms words now → AddsAtoms words now new after more (moves_by (word_at words k.does) (trees words now.keys) ms lists))
    → AddsAtoms words old new before more (atoms_by words (trees words old.keys) k rs base lists)
moves_behind words old now new before after more k rs ms base lists same f b e s t =
    let w = word_at words k.does in
    atoms_both words old now new before after more (map (λ t. atom1 (word_at words k.now) t) (map (term_at (trees words old.keys)) base))
    (moves_by w (trees words old.keys) rs lists) s
    (subst (λ (xs : List Atom). AddsAtoms words now new after more xs) (ap (λ (l : List ℕ). moves_by w (trees words now.keys) l lists) same
    ∙ moves_front words old now w f rs lists b e) (t s.grown.terms))

-- What atoms state is below the number of terms.

one_below : (many : ℕ) (keys : List (List ℕ)) → AreKeys many keys → (w n : ℕ) → n < length keys → NumbersBelow (length keys) (one_part keys w n)
one_below many keys keyed w n h = go (key_at keys n) (keyed.each n h)
  where
    if_below : (b : Bool) (t : ℕ) → t < n → NumbersBelow (length keys) (cond b (t ∷ []) [])
    if_below true t l = (omega (arith, l, h), tt)
    if_below false t l = tt

    go : (key : List ℕ) → IsKey many n key → NumbersBelow (length keys) (one_of w key)
    go [] k = tt
    go (v ∷ []) k = tt
    go (v ∷ (t ∷ [])) k = if_below (v == w) t k.1.0
    go (v ∷ (t ∷ (u ∷ us))) k = tt

second_below : (many : ℕ) (keys : List (List ℕ)) → AreKeys many keys → (w r n : ℕ) → n < length keys → NumbersBelow (length keys) (second_part keys w r n)
second_below many keys keyed w r n h = go (key_at keys n) (keyed.each n h)
  where
    if_below : (b c : Bool) (t : ℕ) → t < n → NumbersBelow (length keys) (cond b (cond c (t ∷ []) []) [])
    if_below true true t l = (omega (arith, l, h), tt)
    if_below true false t l = tt
    if_below false c t l = tt

    go : (key : List ℕ) → IsKey many n key → NumbersBelow (length keys) (second_of w r key)
    go [] k = tt
    go (v ∷ []) k = tt
    go (v ∷ (t ∷ [])) k = tt
    go (v ∷ (t ∷ (u ∷ []))) k = if_below (v == w) (t == r) u k.1.1.0
    go (v ∷ (t ∷ (u ∷ (x ∷ xs)))) k = tt

pub only_below : (many : ℕ) (keys : List (List ℕ)) → AreKeys many keys → (w : ℕ) (ns : List ℕ) → NumbersBelow (length keys) ns
    → NumbersBelow (length keys) (only_parts keys w ns)
only_below many keys keyed w [] b = tt
only_below many keys keyed w (n ∷ ns) b = below_append (length keys) (one_part keys w n) (only_parts keys w ns) (one_below many keys keyed w n b.0)
    (only_below many keys keyed w ns b.1)

pub seconds_below : (many : ℕ) (keys : List (List ℕ)) → AreKeys many keys → (w r : ℕ) (ns : List ℕ) → NumbersBelow (length keys) ns
    → NumbersBelow (length keys) (second_parts keys w r ns)
seconds_below many keys keyed w r [] b = tt
seconds_below many keys keyed w r (n ∷ ns) b = below_append (length keys) (second_part keys w r n) (second_parts keys w r ns)
    (second_below many keys keyed w r n b.0) (seconds_below many keys keyed w r ns b.1)

pub inputs_below : (many : ℕ) (keys : List (List ℕ)) → AreKeys many keys → (w : ℕ) (ns rs : List ℕ) → NumbersBelow (length keys) ns
    → AreListsBelow (length keys) (inputs_of_roles keys w ns rs)
inputs_below many keys keyed w ns [] b = tt
inputs_below many keys keyed w ns (r ∷ rs) b = (seconds_below many keys keyed w r ns b, inputs_below many keys keyed w ns rs b)

-- What is named is what was stated.

below_all : (n : ℕ) (xs : List ℕ) → NumbersBelow n xs → All (λ x. x < n) xs
below_all n [] b i d h = absurd (let bad : ⊥ = omega (arith, h) in bad)
below_all n (x ∷ xs) b zero d h = b.0
below_all n (x ∷ xs) b (suc i) d h = below_all n xs b.1 i d (omega (arith, h))

all_below : (n : ℕ) (xs : List ℕ) → All (λ x. x < n) xs → NumbersBelow n xs
all_below n [] a = tt
all_below n (x ∷ xs) a = (a 0 x (omega arith), all_below n xs (λ i d h. a (suc i) d (omega (arith, h))))

pub named_below : (n : ℕ) (terms : List Tree) (ms : List ℕ) (ns : List Named) → AreNamed terms ms ns → NumbersBelow n ms → NumbersBelow n (terms_named ns)
named_below n terms ms ns a b = all_below n (terms_named ns) (All-permutation (λ (x : ℕ). x < n) ms (terms_named ns) a.same (below_all n ms b))

pub all_named_below : (n : ℕ) (terms : List Tree) (lists : List (List ℕ)) (named : List (List Named)) → AreAllNamed terms lists named
    → AreListsBelow n lists → AreListsBelow n (map terms_named named)
all_named_below n terms [] [] a b = tt
all_named_below n terms [] (ns ∷ named) a b = absurd a
all_named_below n terms (ms ∷ lists) [] a b = absurd a
all_named_below n terms (ms ∷ lists) (ns ∷ named) a b = (named_below n terms ms ns a.0 b.0, all_named_below n terms lists named a.1 b.1)

pub all_named_count : (terms : List Tree) (lists : List (List ℕ)) (named : List (List Named)) → AreAllNamed terms lists named
    → length named ≡ length lists
all_named_count terms [] [] a = refl
all_named_count terms [] (ns ∷ named) a = absurd a
all_named_count terms (ms ∷ lists) [] a = absurd a
all_named_count terms (ms ∷ lists) (ns ∷ named) a = ap suc (all_named_count terms lists named a.1)

pub number_end : {G : Type 0} (words : List (List ℕ)) (old now new : Held) (before after more : List ℕ) (k : Keywords) (ms : List ℕ)
    (rs bs base : List Named) (vs inputs : List (Vec Named G))
    → ms ≡ terms_named rs → bs ≡ base → vs ≡ inputs → BeginsWith old.keys now.keys → NumbersBelow (length old.keys) (terms_named rs)
    → AreListsBelow (length old.keys) (map terms_named (items_of inputs)) → WordTerms words old
    → (WordTerms words old → AddsAtoms words old now before after
    (map (λ t. atom1 (word_at words k.now) t) (map (term_at (trees words old.keys)) (terms_named bs))))
    → (WordTerms words now → AddsAtoms words now new after more
    (moves_by (word_at words k.does) (trees words now.keys) ms (map terms_named (items_of vs))))
    → AddsAtoms words old new before more (atoms_by words (trees words old.keys) k (terms_named rs) (terms_named base)
    (map terms_named (items_of inputs)))
number_end {G} words old now new before after more k ms rs bs base vs inputs same base_is inputs_is f b e t s u =
    moves_behind words old now new before after more k (terms_named rs) ms (terms_named base) (map terms_named (items_of inputs)) same f b e
    (subst (λ (ns : List Named). AddsAtoms words old now before after
    (map (λ x. atom1 (word_at words k.now) x) (map (term_at (trees words old.keys)) (terms_named ns)))) base_is (s t))
    (subst (λ (l : List (Vec Named G)). WordTerms words now
    → AddsAtoms words now new after more (moves_by (word_at words k.does) (trees words now.keys) ms (map terms_named (items_of l)))) inputs_is u)

pub lists_at : {G : Type 0} (old now : Held) (vs inputs : List (Vec Named G)) → vs ≡ inputs → BeginsWith old.keys now.keys
    → AreListsBelow (length old.keys) (map terms_named (items_of inputs)) → AreListsBelow (length now.keys) (map terms_named (items_of vs))
lists_at {G} old now vs inputs e f b = subst (λ (l : List (Vec Named G)). AreListsBelow (length now.keys) (map terms_named (items_of l))) (sym e)
    (lists_later old now (map terms_named (items_of inputs)) f b)

-- The whole step.

pub below_is : (n : ℕ) (xs ys : List ℕ) → xs ≡ ys → NumbersBelow n ys → NumbersBelow n xs
below_is n xs ys e b = subst (λ (l : List ℕ). NumbersBelow n l) (sym e) b

pub lists_below_are : (n : ℕ) (xs ys : List (List ℕ)) → xs ≡ ys → AreListsBelow n ys → AreListsBelow n xs
lists_below_are n xs ys e b = subst (λ (l : List (List ℕ)). AreListsBelow n l) (sym e) b

pub as_many : {G : Type 0} (keys : List (List ℕ)) (w : ℕ) (atoms roles : List ℕ) (lists : List (List ℕ)) (terms : List Tree) (rs : List Named)
    (vs : List (Vec Named G)) → terms_named rs ≡ roles
    → lists ≡ inputs_of_roles keys w atoms roles → AreAllNamed terms lists (items_of vs) → length vs ≡ length rs
as_many {G} keys w atoms roles lists terms rs vs e f a =
    let one = all_named_count terms lists (items_of vs) a ∙ ap length f in
    let two = length-map vs (λ (v : Vec Named G). v.items) in
    let three = length-map roles (λ (r : ℕ). second_parts keys w r atoms) in
    let four = length-map rs (λ (n : Named). n.term) in
    let five = ap length e in omega arith
