-- From the nodes of a network to literals.
use Rattle.std.proofs.Common.{
  ◌≡◌,
  ℕ,
  suc,
  zero,
  ◌+◌,
  ◌*◌,
  ◌<◌,
  ◌≤◌,
  Bool,
  true,
  false,
  not,
  ◌||◌,
  List,
  [],
  ◌∷◌,
  ◌++◌,
  length,
  map,
  get_or,
  max,
  refl,
  sym,
  ◌∙◌,
  ap,
  subst,
  arith,
  All,
  Option,
  Some,
  slice_get,
  length-append,
  below_more,
}
use Rattle.std.specs.Prelude.{◌==◌, None, ◌-◌, Result, Ok, Err, OnOk}
use Rattle.std.proofs.lemmas.List.{get_or_append_left, get_or_default}
use Rattle.std.proofs.Math.Seq.{get_or-append_seam}
use Rattle.propnet.specs.declared.net.Net.{Net}
use Rattle.statement.specs.declared.node_name.Name.{Name}
use Rattle.statement.specs.declared.node_name.Name.TheVariants.{Base, Input, Not, And, View, Transition}
use Rattle.propnet.specs.Values as net
use Rattle.propnet.specs.Network.{Gate, value_by, gate_value as value_at, base_needed, given, value as node_value}
use Rattle.propnet.specs.Nets.{gates_of}
use Rattle.propnet.specs.NetView.{gate_with}
use Rattle.propnet_tape.proofs.Marks.{same_gate}
use Rattle.propnet.specs.Building.{Stands}
use Rattle.propnet.proofs.Facts.{all_of_lt, any_of_lt, value_lt, value_solves, got_map}
use Rattle.propnet_tape.specs.declared.builder.Builder.{Builder}
use Rattle.propnet_tape.specs.Building.{IsBuilt, IsStep, IsLiteral, slots_of, signal_value, all_of, any_of}
use Rattle.propnet_tape.specs.Marks.{is_and_gate, is_or_gate, is_marked, term_nodes, AllMarked, TermsMarked, IsCovered, IsClosedFrom}
use Rattle.propnet_tape.specs.Tapes.{AreSources}
use Rattle.propnet_tape.specs.Sources.{is_source, source_word, IsGivenAt, AreSourcesOf}
use Rattle.propnet_tape.specs.Translating.{NodesKept, NodeTerms, IsTermAdded, IsTermOf, IsMeant, IsTranslated}
use Rattle.propnet_tape.specs.Terms.{some_of, LiteralsBelow}
use Rattle.propnet_tape.proofs.Facts.{and_true}
use Rattle.propnet_tape.proofs.Facts.{groups_before}
use Rattle.propnet_tape.proofs.Facts.{given_slot, is_one_min, is_one_not}
use Rattle.propnet_tape.specs.Values.{start, value}
use Rattle.propnet_tape.proofs.Facts.{pass_below}

is_one_max : (a b : ℕ) → a < 2 → b < 2 → (max a b == 1) ≡ ((a == 1) || (b == 1))
is_one_max zero zero h k = refl
is_one_max zero (suc zero) h k = refl
is_one_max (suc zero) zero h k = refl
is_one_max (suc zero) (suc zero) h k = refl
is_one_max (suc (suc a)) b h k = absurd (omega arith)
is_one_max zero (suc (suc b)) h k = absurd (omega arith)
is_one_max (suc zero) (suc (suc b)) h k = absurd (omega arith)

-- the literals of what a node reads have the values of these nodes
abbrev pub AreReadAs : (ℕ → ℕ) → (ℕ → Bool) → List ℕ → List ℕ → Type 0
AreReadAs v u literals reads = (k : ℕ) → k < length reads → u (get_or literals (get_or reads k 0) 0) ≡ (v (get_or reads k 0) == 1)

all_on : (v : ℕ → ℕ) (u : ℕ → Bool) (literals reads : List ℕ) → ((n : ℕ) → v n < 2) → AreReadAs v u literals reads
    → all_of u (map (λ m. get_or literals m 0) reads) ≡ (net.all_of v reads == 1)
all_on v u literals [] bits h = refl
all_on v u literals (x ∷ xs) bits h =
    let e : u (get_or literals x 0) ≡ (v x == 1) = h 0 (omega arith) in
    let f : all_of u (map (λ m. get_or literals m 0) xs) ≡ (net.all_of v xs == 1) = all_on v u literals xs bits (λ k l. h (suc k) (omega arith)) in
    rw (e, f) (sym (is_one_min (v x) (net.all_of v xs) (bits x) (all_of_lt v xs)))

any_on : (v : ℕ → ℕ) (u : ℕ → Bool) (literals reads : List ℕ) → ((n : ℕ) → v n < 2) → AreReadAs v u literals reads
    → any_of u (map (λ m. get_or literals m 0) reads) ≡ (net.any_bit v reads == 1)
any_on v u literals [] bits h = refl
any_on v u literals (x ∷ xs) bits h =
    let e : u (get_or literals x 0) ≡ (v x == 1) = h 0 (omega arith) in
    let f : any_of u (map (λ m. get_or literals m 0) xs) ≡ (net.any_bit v xs == 1) = any_on v u literals xs bits (λ k l. h (suc k) (omega arith)) in
    rw (e, f) (sym (is_one_max (v x) (net.any_bit v xs) (bits x) (any_of_lt v xs bits)))

-- the value of a node is that of what it stands for
solved : (n : Net) (state : ℕ → ℕ) (joint : List ℕ) (m : ℕ) (gate : Gate) → slice_get (gates_of n) m ≡ Some gate
    → node_value (gates_of n) state joint m ≡ value_by (node_value (gates_of n) state joint) state joint gate.name gate.reads
solved n state joint m gate e =
    value_solves n.base (gates_of n) state joint n.in_order m ∙ ap (λ (o : Option Gate). value_at (node_value (gates_of n) state joint) state joint o)
    e

all_by : (v state : ℕ → ℕ) (joint : List ℕ) (x : Name) (reads : List ℕ) → is_and_gate x ≡ true → value_by v state joint x reads ≡ net.all_of v reads
all_by v state joint (Base p) reads e = absurd cc
all_by v state joint (Input r m) reads e = absurd cc
all_by v state joint (Not a) reads e = absurd cc
all_by v state joint (And i) reads e = refl
all_by v state joint (View a) reads e = absurd cc
all_by v state joint (Transition p) reads e = absurd cc

none_by : (v state : ℕ → ℕ) (joint : List ℕ) (x : Name) (reads : List ℕ) → is_source x ≡ false → is_or_gate x ≡ false → is_and_gate x ≡ false
    → value_by v state joint x reads ≡ 1 - net.any_bit v reads
none_by v state joint (Base p) reads e f g = absurd cc
none_by v state joint (Input r m) reads e f g = absurd cc
none_by v state joint (Not a) reads e f g = refl
none_by v state joint (And i) reads e f g = absurd cc
none_by v state joint (View a) reads e f g = absurd cc
none_by v state joint (Transition p) reads e f g = absurd cc

pub map_within : (f : ℕ → ℕ) (n : ℕ) (xs : List ℕ) → ((k : ℕ) → k < length xs → f (get_or xs k 0) < n) → All (λ l. l < n) (map f xs)
map_within f n [] h k d l = absurd (omega arith)
map_within f n (x ∷ xs) h zero d l = h 0 (omega arith)
map_within f n (x ∷ xs) h (suc k) d l = map_within f n xs (λ j i. h (suc j) (omega arith)) k d (omega arith)

-- What a marked node reads.

-- what an and gate or a not gate reads is marked, and each of it has its literal
module _ (n : Net) (marks : List Bool) (words : List ℕ) (m : ℕ) (gate : Gate) (b : Builder) (literals queue : List ℕ)
    (e : slice_get (gates_of n) m ≡ Some gate) (f : is_or_gate gate.name ≡ false)
    (closed : IsClosedFrom (gates_of n) 0 marks) (on : is_marked marks m ≡ true) (t : IsTranslated n marks words m b literals)
    (q : queue ≡ map (λ k. get_or literals k 0) gate.reads) where
  read_meant : (k : ℕ) → k < length gate.reads → IsMeant n words b (get_or literals (get_or gate.reads k 0) 0) (get_or gate.reads k 0)
  read_meant k l =
      let all : AllMarked marks gate.reads = subst (λ (x : Bool). IsCovered x (gates_of n) marks gate.reads) f
      (closed.closed m gate (omega arith) e on) in
      t.values (get_or gate.reads k 0) ((n.in_order m gate e).smaller k 0 l) (all k 0 l)

  -- the literal of such a node by those of the nodes that it reads
  pub meant_all : (c : Builder) (z : ℕ) → IsStep b c → is_and_gate gate.name ≡ true → IsLiteral c z (λ bits. all_of (signal_value b bits) queue)
      → IsMeant n words c z m
  meant_all c z step is l = record {
    slot = l.slot;
    value = λ state joint w s one.
        let v : ℕ → ℕ = node_value (gates_of n) state joint in
        l.value (λ i. w (get_or words i 0)) one
        ∙ ap (λ (xs : List ℕ). all_of (signal_value b (λ i. w (get_or words i 0))) xs) q
        ∙ all_on v (signal_value b (λ i. w (get_or words i 0))) literals gate.reads (λ k. value_lt (gates_of n) state joint s.bits k)
        (λ k i. (read_meant k i).value state joint w s (groups_before b c step (λ i. w (get_or words i 0)) one))
        ∙ sym (ap (λ (x : ℕ). x == 1) (solved n state joint m gate e ∙ all_by v state joint gate.name gate.reads is));
  }

  pub meant_none : (c : Builder) (z : ℕ) → IsStep b c → is_source gate.name ≡ false → is_and_gate gate.name ≡ false
      → IsLiteral c z (λ bits. not (any_of (signal_value b bits) queue)) → IsMeant n words c z m
  meant_none c z step g h l = record {
    slot = l.slot;
    value = λ state joint w s one.
        let v : ℕ → ℕ = node_value (gates_of n) state joint in
        let small : (k : ℕ) → v k < 2 = λ k. value_lt (gates_of n) state joint s.bits k in
        l.value (λ i. w (get_or words i 0)) one
        ∙ ap (λ (xs : List ℕ). not (any_of (signal_value b (λ i. w (get_or words i 0))) xs)) q
        ∙ ap not (any_on v (signal_value b (λ i. w (get_or words i 0))) literals gate.reads small
        (λ k i. (read_meant k i).value state joint w s (groups_before b c step (λ i. w (get_or words i 0)) one)))
        ∙ sym (is_one_not (net.any_bit v gate.reads) (any_of_lt v gate.reads small))
        ∙ sym (ap (λ (x : ℕ). x == 1) (solved n state joint m gate e ∙ none_by v state joint gate.name gate.reads g f h));
  }

  -- what such a node reads has literals of the tape
  pub queue_within : All (λ l. l < slots_of b) queue
  queue_within = rw q (map_within (λ k. get_or literals k 0) (slots_of b) gate.reads (λ k l. (read_meant k l).slot))

-- what a node reads has been translated
pub reads_below : (n : Net) (m : ℕ) (gate : Gate) (xs literals : List ℕ) → slice_get (gates_of n) m ≡ Some gate → xs ≡ literals → length literals ≡ m
    → All (λ k. k < length xs) gate.reads
reads_below n m gate xs literals e f c = rw (f, c) (n.in_order m gate e).smaller

-- What an or reads.

gate_there : (gs : List Gate) (i : ℕ) → i < length gs → (g : Gate) × (slice_get gs i ≡ Some g)
gate_there [] i h = absurd (omega arith)
gate_there (g ∷ gs) zero h = (g, refl)
gate_there (g ∷ gs) (suc i) h = gate_there gs i (omega arith)

-- a term's value is that of its node
term_on : (v : ℕ → ℕ) (state : ℕ → ℕ) (joint : List ℕ) (u : ℕ → Bool) (literals : List ℕ) → ((n : ℕ) → v n < 2) → (x : Name) (r : ℕ) (reads : List ℕ)
    → v r ≡ value_by v state joint x reads
    → AreReadAs v u literals (term_nodes (is_and_gate x) r reads)
    → all_of u (map (λ m. get_or literals m 0) (term_nodes (is_and_gate x) r reads)) ≡ (v r == 1)
term_on v state joint u literals bits (Base p) r reads e h = and_true (u (get_or literals r 0)) ∙ h 0 (omega arith)
term_on v state joint u literals bits (Input q i) r reads e h = and_true (u (get_or literals r 0)) ∙ h 0 (omega arith)
term_on v state joint u literals bits (Not a) r reads e h = and_true (u (get_or literals r 0)) ∙ h 0 (omega arith)
term_on v state joint u literals bits (And i) r reads e h = all_on v u literals reads bits h ∙ sym (ap (λ (x : ℕ). x == 1) e)
term_on v state joint u literals bits (View a) r reads e h = and_true (u (get_or literals r 0)) ∙ h 0 (omega arith)
term_on v state joint u literals bits (Transition p) r reads e h = and_true (u (get_or literals r 0)) ∙ h 0 (omega arith)

terms_on : (v : ℕ → ℕ) (u : ℕ → Bool) → ((n : ℕ) → v n < 2) → (reads : List ℕ) (terms : List (List ℕ)) → length terms ≡ length reads
    → ((k : ℕ) (d : List ℕ) → k < length reads → all_of u (get_or terms k d) ≡ (v (get_or reads k 0) == 1))
    → some_of u terms ≡ (net.any_bit v reads == 1)
terms_on v u bits [] [] s h = refl
terms_on v u bits [] (t ∷ ts) s h = absurd (omega arith)
terms_on v u bits (x ∷ xs) [] s h = absurd (omega arith)
terms_on v u bits (x ∷ xs) (t ∷ ts) s h =
    let e : all_of u t ≡ (v x == 1) = h 0 t (omega arith) in
    let f : some_of u ts ≡ (net.any_bit v xs == 1) = terms_on v u bits xs ts (omega arith) (λ k d l. h (suc k) d (omega arith)) in
    rw (e, f) (sym (is_one_max (v x) (net.any_bit v xs) (bits x) (any_of_lt v xs bits)))

or_by : (v state : ℕ → ℕ) (joint : List ℕ) (x : Name) (reads : List ℕ) → is_or_gate x ≡ true → value_by v state joint x reads ≡ net.any_bit v reads
or_by v state joint (Base p) reads e = absurd cc
or_by v state joint (Input r m) reads e = absurd cc
or_by v state joint (Not a) reads e = absurd cc
or_by v state joint (And i) reads e = absurd cc
or_by v state joint (View a) reads e = refl
or_by v state joint (Transition p) reads e = refl

nodes_below : (b : Bool) (r m : ℕ) (reads : List ℕ) → r < m → All (λ k. k < r) reads → All (λ k. k < m) (term_nodes b r reads)
nodes_below true r m reads h a = λ k d l. let s : get_or reads k d < r = a k d l in omega arith
nodes_below false r m reads h a = only r m h
  where
    only : (r m : ℕ) → r < m → All (λ k. k < m) (r ∷ [])
    only r m h zero d l = h
    only r m h (suc k) d l = absurd (omega arith)

-- all that is known of what an or reads
module _ (n : Net) (marks : List Bool) (words : List ℕ) (m : ℕ) (gate : Gate) (b : Builder) (literals : List ℕ) (terms : List (List ℕ))
    (e : slice_get (gates_of n) m ≡ Some gate) (inside : m < length (gates_of n))
    (is : is_or_gate gate.name ≡ true) (closed : IsClosedFrom (gates_of n) 0 marks) (on : is_marked marks m ≡ true)
    (t : IsTranslated n marks words m b literals)
    (are : NodeTerms (gates_of n) literals gate.reads terms) where
  smaller : (k : ℕ) → k < length gate.reads → get_or gate.reads k 0 < m
  smaller k h = (n.in_order m gate e).smaller k 0 h

  there : (k : ℕ) → k < length gate.reads → (g : Gate) × (slice_get (gates_of n) (get_or gate.reads k 0) ≡ Some g)
  there k h = let s : get_or gate.reads k 0 < m = smaller k h in gate_there (gates_of n) (get_or gate.reads k 0) (omega arith)

  nodes : (k : ℕ) → k < length gate.reads → List ℕ
  nodes k h = term_nodes (is_and_gate (there k h).0.name) (get_or gate.reads k 0) (there k h).0.reads

  meant : (k : ℕ) (h : k < length gate.reads) (i : ℕ) → i < length (nodes k h) → IsMeant n words b (get_or literals (get_or (nodes k h) i 0) 0)
      (get_or (nodes k h) i 0)
  unfolding nodes there
  meant k h i l =
      let g = there k h in
      let all : TermsMarked (gates_of n) marks gate.reads = subst (λ (x : Bool). IsCovered x (gates_of n) marks gate.reads) is
      (closed.closed m gate (omega arith) e on) in
      t.values (get_or (nodes k h) i 0)
      (nodes_below (is_and_gate g.0.name) (get_or gate.reads k 0) m g.0.reads (smaller k h) (n.in_order (get_or gate.reads k 0) g.0 g.1).smaller i 0
      l)
      (all k 0 h g.0 g.1 i 0 l)

  term_is : (k : ℕ) (d : List ℕ) (h : k < length gate.reads) → get_or terms k d ≡ map (λ i. get_or literals i 0) (nodes k h)
  unfolding nodes there
  term_is k d h = are.each k d h (there k h).0 (there k h).1

  pub terms_within : LiteralsBelow (slots_of b) terms
  terms_within k d h =
      let l : k < length gate.reads = omega (arith, are.size) in
      subst (λ (xs : List ℕ). All (λ i. i < slots_of b) xs) (sym (term_is k d l))
      (map_within (λ i. get_or literals i 0) (slots_of b) (nodes k l) (λ i j. (meant k l i j).slot))

  -- the literal of the or of the terms is that of the node
  pub meant_or : (c : Builder) (z : ℕ) → IsStep b c → IsLiteral c z (λ bits. some_of (signal_value b bits) terms) → IsMeant n words c z m
  unfolding nodes there
  meant_or c z step l = record {
    slot = l.slot;
    value = λ state joint w s one.
        let v : ℕ → ℕ = node_value (gates_of n) state joint in
        let small : (k : ℕ) → v k < 2 = λ k. value_lt (gates_of n) state joint s.bits k in
        l.value (λ i. w (get_or words i 0)) one
        ∙ terms_on v (signal_value b (λ i. w (get_or words i 0))) small gate.reads terms are.size
        (λ k d h. ap (λ (xs : List ℕ). all_of (signal_value b (λ i. w (get_or words i 0))) xs) (term_is k d h)
        ∙ term_on v state joint (signal_value b (λ i. w (get_or words i 0))) literals small (there k h).0.name (get_or gate.reads k 0) (there k h).0.reads
        (solved n state joint (get_or gate.reads k 0) (there k h).0 (there k h).1)
        (λ i j. (meant k h i j).value state joint w s (groups_before b c step (λ i. w (get_or words i 0)) one)))
        ∙ sym (ap (λ (x : ℕ). x == 1) (solved n state joint m gate e ∙ or_by v state joint gate.name gate.reads is));
  }

-- A node that is given.

given_value : (n : Net) (state : ℕ → ℕ) (joint : List ℕ) (w : ℕ → Bool) → AreSources n state joint w → (m : ℕ) (x : Name) (reads : List ℕ) (word : ℕ)
    → Stands (gates_of n) m x → base_needed x ≤ n.base → source_word x m ≡ Some word
    → w word ≡ (value_by (node_value (gates_of n) state joint) state joint x reads == 1)
given_value n state joint w s m (Base p) reads word stands few e = let same : p ≡ word = cc in
    subst (λ (q : ℕ). w q ≡ (state p == 1)) same (s.bases p (omega arith))
given_value n state joint w s m (Input r i) reads word stands few e =
    let same : m ≡ word = cc in
    let at = n.placed.places m r i stands in
    subst (λ (q : ℕ). w q ≡ (given joint r i == 1)) same (ap w at.0 ∙ s.moves r i at.1)
given_value n state joint w s m (Not a) reads word stands few e = absurd cc
given_value n state joint w s m (And i) reads word stands few e = absurd cc
given_value n state joint w s m (View a) reads word stands few e = absurd cc
given_value n state joint w s m (Transition p) reads word stands few e = absurd cc

word_there : (x : Name) (m : ℕ) → is_source x ≡ true → (word : ℕ) × (source_word x m ≡ Some word)
word_there (Base p) m e = (p, refl)
word_there (Input r i) m e = (m, refl)
word_there (Not a) m e = absurd cc
word_there (And i) m e = absurd cc
word_there (View a) m e = absurd cc
word_there (Transition p) m e = absurd cc

pub meant_source : (n : Net) (marks : List Bool) (words given_literals : List ℕ) (m : ℕ) (gate : Gate) (b : Builder) (literals : List ℕ) (z : ℕ)
    → slice_get (gates_of n) m ≡ Some gate → m < length (gates_of n)
    → is_source gate.name ≡ true → is_marked marks m ≡ true → AreSourcesOf (gates_of n) marks (length (gates_of n)) words given_literals
    → IsTranslated n marks words m b literals → z ≡ get_or given_literals m z → IsMeant n words b z m
unfolding value
meant_source n marks words given_literals m gate b literals z e lt is on sources t read =
    let word = word_there gate.name m is in
    let at = sources.each m lt gate word.0 e on word.1 in
    let slot : z ≡ 2 + 2 * at.place = read ∙ get_or_default given_literals m z 0 (let c = sources.count in omega arith) ∙ at.slot in
    let below : z < b.first = let f = t.first in let w = at.within in omega arith in
    record {
      slot = omega arith;
      value = λ state joint w s one.
          pass_below b.first b.gates.items (start (λ i. w (get_or words i 0))) z below
          ∙ ap (start (λ i. w (get_or words i 0))) slot
          ∙ given_slot (λ i. w (get_or words i 0)) at.place
          ∙ ap w at.is
          ∙ given_value n state joint w s m gate.name gate.reads word.0 (got_map (λ (g : Gate). g.name) (gates_of n) m gate e)
          (n.in_order m gate e).within_base word.1
          ∙ sym (ap (λ (x : ℕ). x == 1) (solved n state joint m gate e));
    }

-- one more node, of which nothing is given
pub sources_skip : (gates : List Gate) (marks : List Bool) (n : ℕ) (words literals next : List ℕ) → AreSourcesOf gates marks n words literals
    → next ≡ literals ++ (0 ∷ [])
    → ((gate : Gate) (word : ℕ) → slice_get gates n ≡ Some gate → is_marked marks n ≡ true → source_word gate.name n ≡ Some word → ⊥)
    → AreSourcesOf gates marks (n + 1) words next
sources_skip gates marks n words literals next h e none = rw e (record {
  count = simp length-append (omega (arith, h.count));
  few = (let few = h.few in omega arith);
  each = below_more _ _ before (λ gate word g m s. absurd (none gate word g m s));
})
  where
    before : (k : ℕ) → k < n → (gate : Gate) (word : ℕ) → slice_get gates k ≡ Some gate → is_marked marks k ≡ true
        → source_word gate.name k ≡ Some word
        → IsGivenAt words (get_or (literals ++ (0 ∷ [])) k 0) word
    before k l gate word g m s = let j : k < length literals = omega (arith, h.count) in
        rw (get_or_append_left literals (0 ∷ []) 0 k j) (h.each k l gate word g m s)

-- one more node that is given
pub sources_more : (gates : List Gate) (marks : List Bool) (n : ℕ) (name : Name) (reads words more literals next : List ℕ) (word literal : ℕ)
    → AreSourcesOf gates marks n words literals
    → slice_get gates n ≡ Some (gate_with name reads) → source_word name n ≡ Some word → more ≡ words ++ (word ∷ []) → literal ≡ 2 + 2 * length words
    → next ≡ literals ++ (literal ∷ [])
    → AreSourcesOf gates marks (n + 1) more next
sources_more gates marks n name reads words more literals next word literal h e f p slot q = rw (p, q) (record {
  count = simp length-append (omega (arith, h.count));
  few = simp length-append (omega (arith, h.few));
  each = below_more _ _ before here;
})
  where
    longer : (l x : ℕ) → IsGivenAt words l x → IsGivenAt (words ++ (word ∷ [])) l x
    longer l x g = record {
      place = g.place;
      slot = g.slot;
      within = simp length-append (omega (arith, g.within));
      is = get_or_append_left words (word ∷ []) 0 g.place g.within ∙ g.is;
    }

    before : (k : ℕ) → k < n → (gate : Gate) (x : ℕ) → slice_get gates k ≡ Some gate → is_marked marks k ≡ true → source_word gate.name k ≡ Some x
        → IsGivenAt (words ++ (word ∷ [])) (get_or (literals ++ (literal ∷ [])) k 0) x
    before k l gate x g m s =
        let j : k < length literals = omega (arith, h.count) in
        rw (get_or_append_left literals (literal ∷ []) 0 k j) (longer (get_or literals k 0) x (h.each k l gate x g m s))

    here : (gate : Gate) (x : ℕ) → slice_get gates n ≡ Some gate → is_marked marks n ≡ true → source_word gate.name n ≡ Some x
        → IsGivenAt (words ++ (word ∷ [])) (get_or (literals ++ (literal ∷ [])) n 0) x
    here gate x g m s =
        let same : gate_with name reads ≡ gate = same_gate (gate_with name reads) gate (sym e ∙ g) in
        let found : source_word name n ≡ Some x = subst (λ (y : Gate). source_word y.name n ≡ Some x) (sym same) s in
        let is_word : word ≡ x = cc in
        let at : get_or (literals ++ (literal ∷ [])) n 0 ≡ literal = rw (← h.count) (get_or-append_seam literals literal [] 0) in
        rw at (record {
          place = length words;
          slot = slot;
          within = simp length-append (omega arith);
          is = get_or-append_seam words word [] 0 ∙ is_word;
        })

pub not_given : (gates : List Gate) (n : ℕ) (name : Name) (reads : List ℕ) → slice_get gates n ≡ Some (gate_with name reads)
    → source_word name n ≡ None
    → (gate : Gate) (word : ℕ) → slice_get gates n ≡ Some gate → source_word gate.name n ≡ Some word → ⊥
not_given gates n name reads e f gate word g s =
    let same : gate_with name reads ≡ gate = same_gate (gate_with name reads) gate (sym e ∙ g) in
    let found : source_word name n ≡ Some word = subst (λ (y : Gate). source_word y.name n ≡ Some word) (sym same) s in
    absurd cc

-- One more node.

meant_kept : (n : Net) (words : List ℕ) (b c : Builder) (l m : ℕ) → IsStep b c → IsMeant n words b l m → IsMeant n words c l m
meant_kept n words b c l m s h = record {
  slot = omega (arith, h.slot, s.more);
  value = λ state joint w t one. s.keeps (λ i. w (get_or words i 0)) l h.slot
      ∙ h.value state joint w t (groups_before b c s (λ i. w (get_or words i 0)) one);
}

pub translated_more : (n : Net) (marks : List Bool) (words : List ℕ) (m : ℕ) (b c : Builder) (literals next : List ℕ) (z : ℕ)
    → IsTranslated n marks words m b literals → IsStep b c → next ≡ literals ++ (z ∷ [])
    → (is_marked marks m ≡ true → IsMeant n words c z m)
    → IsTranslated n marks words (m + 1) c next
translated_more n marks words m b c literals next z t s e l = rw e (record {
  built = s.built;
  first = s.first ∙ t.first;
  count = simp length-append (omega (arith, t.count));
  values = below_more _ _ before here;
})
  where
    before : (k : ℕ) → k < m → is_marked marks k ≡ true → IsMeant n words c (get_or (literals ++ (z ∷ [])) k 0) k
    before k h i =
        let j : k < length literals = omega (arith, t.count) in
        rw (get_or_append_left literals (z ∷ []) 0 k j) (meant_kept n words b c (get_or literals k 0) k s (t.values k h i))

    here : is_marked marks m ≡ true → IsMeant n words c (get_or (literals ++ (z ∷ [])) m 0) m
    here i = let at : get_or (literals ++ (z ∷ [])) m 0 ≡ z = rw (← t.count) (get_or-append_seam literals z [] 0) in rw at (l i)

pub translated_first : (n : Net) (marks : List Bool) (words : List ℕ) (b : Builder) (literals : List ℕ) → IsBuilt b → b.first ≡ 2 + 2 * length words
    → literals ≡ [] → IsTranslated n marks words 0 b literals
translated_first n marks words b literals h f e = rw e (record { built = h; first = f; count = refl; values = λ m l k. absurd (omega arith) })

pub are_kept : (n : Net) (marks : List Bool) (words : List ℕ) (m many : ℕ) (b : Builder) (literals kept : List ℕ)
    → IsTranslated n marks words m b literals → many ≡ length (gates_of n) → m ≤ many → many ≤ m
    → AllMarked marks kept → All (λ k. k < length (gates_of n)) kept → NodesKept n words kept b literals
are_kept n marks words m many b literals kept t f below above a w = record {
  built = t.built;
  first = t.first;
  count = let c = t.count in omega arith;
  meant = λ k d l. let s : get_or kept k d < length (gates_of n) = w k d l in t.values (get_or kept k d) (omega arith) (a k d l);
}

-- The terms of an or.

pub term_found : (gates : List Gate) (literals : List ℕ) (n : ℕ) (name : Name) (reads term : List ℕ) (b : Bool)
    → slice_get gates n ≡ Some (gate_with name reads) → is_and_gate name ≡ b
    → term ≡ map (λ m. get_or literals m 0) (term_nodes b n reads) → IsTermOf gates literals n term
term_found gates literals n name reads term b e f t = λ gate g.
    let same : gate_with name reads ≡ gate = same_gate (gate_with name reads) gate (sym e ∙ g) in
    subst (λ (x : Gate). term ≡ map (λ m. get_or literals m 0) (term_nodes (is_and_gate x.name) n x.reads)) same
    (subst (λ (x : Bool). term ≡ map (λ m. get_or literals m 0) (term_nodes x n reads)) (sym f) t)

pub terms_more : (gates : List Gate) (literals numbers : List ℕ) (old new : List (List ℕ)) (i x : ℕ) (term : List ℕ) → length old ≡ i
    → x ≡ get_or numbers i 0 → IsTermOf gates literals x term
    → new ≡ old ++ (term ∷ []) → ((k : ℕ) → k < i → (d : List ℕ) → IsTermOf gates literals (get_or numbers k 0) (get_or old k d))
    → (k : ℕ) → k < i + 1 → (d : List ℕ) → IsTermOf gates literals (get_or numbers k 0) (get_or new k d)
terms_more gates literals numbers old new i x term size read here e before = rw e (below_more _ _ first last)
  where
    first : (k : ℕ) → k < i → (d : List ℕ) → IsTermOf gates literals (get_or numbers k 0) (get_or (old ++ (term ∷ [])) k d)
    first k h d = let l : k < length old = omega arith in rw (get_or_append_left old (term ∷ []) d k l) (before k h d)

    last : (d : List ℕ) → IsTermOf gates literals (get_or numbers i 0) (get_or (old ++ (term ∷ [])) i d)
    last d = let at : get_or (old ++ (term ∷ [])) i d ≡ term = rw (← size) (get_or-append_seam old term [] d) in rw (at, ← read) here

pub added_size : (old new : List (List ℕ)) (term : List ℕ) (i : ℕ) → length old ≡ i → new ≡ old ++ term ∷ [] → length new ≡ i + 1
added_size old new term i size e = ap (λ (ts : List (List ℕ)). length ts) e ∙ (length-append old (term ∷ []) ∙ ap (λ (n : ℕ). n + 1) size)

-- a term was added, where that succeeded
pub term_added : {E : Type 0} → (r : Result (Unit {0}) E) (gates : List Gate) (literals : List ℕ) (n : ℕ) (old new : List (List ℕ)) (term : List ℕ)
    → IsTermOf gates literals n term → OnOk r (new ≡ old ++ term ∷ []) → OnOk r (IsTermAdded gates literals n old new)
term_added (Ok u) gates literals n old new term is h = record { term = term; is = is; added = h }
term_added (Err e) gates literals n old new term is h = h
