-- Marks on nodes.
use Rattle.std.proofs.Common.{
  ◌≡◌,
  ◌≢◌,
  ℕ,
  ◌+◌,
  ◌<◌,
  ◌≤◌,
  Bool,
  true,
  false,
  List,
  [],
  ◌∷◌,
  zero,
  suc,
  Some,
  slice_get,
  ap,
  length,
  get_or,
  set,
  refl,
  sym,
  ◌∙◌,
  subst,
  arith,
  All,
  ◌⊎◌,
  inl,
  inr,
  get_or-set_same,
  get_or-set_other,
  below_more,
}
use Rattle.std.proofs.lemmas.Bool.{cases_eq}
use Rattle.std.proofs.lemmas.List.{get_or_default}
use Rattle.propnet.specs.Network.{Gate, IsInOrder}
use Rattle.propnet.specs.NetView.{gate_with}
use Rattle.statement.specs.declared.node_name.Name.{Name}
use Rattle.propnet_tape.specs.Marks.{is_and_gate, is_or_gate, is_marked, term_nodes, AllMarked, TermMarked, TermsMarked, IsCovered, IsClosedFrom}

marked_stays : (marks : List Bool) (x m : ℕ) → x < length marks → is_marked marks m ≡ true → (m ≡ x) ⊎ (m ≢ x) → is_marked (set marks x true) m ≡ true
marked_stays marks x m h e (inl p) = rw (p, get_or-set_same marks x true false h) refl
marked_stays marks x m h e (inr p) = rw (get_or-set_other marks x m true false p) e

pub all_stay : (old new : List Bool) (xs : List ℕ) → ((m : ℕ) → is_marked old m ≡ true → is_marked new m ≡ true) → AllMarked old xs → AllMarked new xs
all_stay old new xs h a k d l = h (get_or xs k d) (a k d l)

pub same_gate : (x y : Gate) → Some x ≡ Some y → x ≡ y
same_gate x y e = cc

pub marked_more : (marks : List Bool) (x : ℕ) → x < length marks → (m : ℕ) → is_marked marks m ≡ true → is_marked (set marks x true) m ≡ true
marked_more marks x h m e = marked_stays marks x m h e (cases_eq m x)

pub marked_next : (marks : List Bool) (numbers : List ℕ) (i x : ℕ) → get_or numbers i 0 ≡ x → x < length marks
    → ((k : ℕ) → k < i → is_marked marks (get_or numbers k 0) ≡ true)
    → (k : ℕ) → k < i + 1 → is_marked (set marks x true) (get_or numbers k 0) ≡ true
marked_next marks numbers i x e h before =
    below_more _ _ (λ k l. marked_more marks x h (get_or numbers k 0) (before k l)) (rw (e, get_or-set_same marks x true false h) refl)

pub above_next : (initial marks : List Bool) (numbers : List ℕ) (i n m : ℕ) → i < length numbers → All (λ k. k < n) numbers → n ≤ m
    → is_marked marks m ≡ is_marked initial m → is_marked (set marks (get_or numbers i 0) true) m ≡ is_marked initial m
above_next initial marks numbers i n m l a h e =
    let below : get_or numbers i 0 < n = a i 0 l in
    let ne : m ≢ get_or numbers i 0 = (λ q. absurd (omega arith)) in
    rw (get_or-set_other marks (get_or numbers i 0) m true false ne) e

pub all_marked : (marks : List Bool) (numbers : List ℕ) (n : ℕ) → length numbers ≤ n
    → ((k : ℕ) → k < n → is_marked marks (get_or numbers k 0) ≡ true) → AllMarked marks numbers
all_marked marks numbers n h a k d l = subst (λ (t : ℕ). is_marked marks t ≡ true) (get_or_default numbers k 0 d l) (a k (omega arith))

-- What an or needs of what it reads.

pub term_stays : (gates : List Gate) (old new : List Bool) (n : ℕ) → ((m : ℕ) → is_marked old m ≡ true → is_marked new m ≡ true)
    → TermMarked gates old n → TermMarked gates new n
term_stays gates old new n more h = λ gate e. all_stay old new (term_nodes (is_and_gate gate.name) n gate.reads) more (h gate e)

pub term_marked : (gates : List Gate) (marks : List Bool) (n : ℕ) (name : Name) (reads : List ℕ) (b : Bool)
    → slice_get gates n ≡ Some (gate_with name reads) → is_and_gate name ≡ b
    → AllMarked marks (term_nodes b n reads) → TermMarked gates marks n
term_marked gates marks n name reads b e f a = λ gate g.
    let same : gate_with name reads ≡ gate = same_gate (gate_with name reads) gate (sym e ∙ g) in
    subst (λ (x : Gate). AllMarked marks (term_nodes (is_and_gate x.name) n x.reads)) same
    (subst (λ (x : Bool). AllMarked marks (term_nodes x n reads)) (sym f) a)

pub terms_next : (gates : List Gate) (old new : List Bool) (numbers : List ℕ) (i x : ℕ) → ((m : ℕ) → is_marked old m ≡ true → is_marked new m ≡ true)
    → x ≡ get_or numbers i 0 → TermMarked gates new x → ((k : ℕ) → k < i → TermMarked gates old (get_or numbers k 0)) → (k : ℕ) → k < i + 1
    → TermMarked gates new (get_or numbers k 0)
terms_next gates old new numbers i x more e here before =
    below_more _ _ (λ k l. term_stays gates old new (get_or numbers k 0) more (before k l)) (subst (λ (n : ℕ). TermMarked gates new n) e here)

pub all_terms : (gates : List Gate) (marks : List Bool) (numbers : List ℕ) (n : ℕ) → length numbers ≤ n
    → ((k : ℕ) → k < n → TermMarked gates marks (get_or numbers k 0)) → TermsMarked gates marks numbers
all_terms gates marks numbers n h a k d l = subst (λ (t : ℕ). TermMarked gates marks t) (get_or_default numbers k 0 d l) (a k (omega arith))

-- what a node reads is below it, and so within the nodes
pub reads_below : (base : ℕ) (gates : List Gate) (n : ℕ) (gate : Gate) (m : ℕ) → IsInOrder base gates → slice_get gates n ≡ Some gate → n ≤ m
    → All (λ k. k < m) gate.reads
reads_below base gates n gate m order e h = λ k d l. let s : get_or gate.reads k d < n = (order n gate e).smaller k d l in omega arith

pub only_below : (n m : ℕ) → n < m → All (λ k. k < m) (n ∷ [])
only_below n m h zero d l = h
only_below n m h (suc k) d l = absurd (omega arith)

-- One more node.

covered_stays : (b : Bool) (gates : List Gate) (old new : List Bool) (reads : List ℕ) → ((m : ℕ) → is_marked old m ≡ true → is_marked new m ≡ true)
    → IsCovered b gates old reads → IsCovered b gates new reads
covered_stays true gates old new reads more h = λ k d l. term_stays gates old new (get_or reads k d) more (h k d l)
covered_stays false gates old new reads more h = all_stay old new reads more h

pub closed_next : (base : ℕ) (gates : List Gate) (n : ℕ) (name : Name) (reads : List ℕ) (b : Bool) (old new : List Bool) → IsInOrder base gates
    → slice_get gates n ≡ Some (gate_with name reads) → is_or_gate name ≡ b
    → IsClosedFrom gates (n + 1) old → length new ≡ length old → IsCovered b gates new reads
    → ((m : ℕ) → is_marked old m ≡ true → is_marked new m ≡ true)
    → ((a m : ℕ) → All (λ k. k < a) reads → a ≤ m → is_marked new m ≡ is_marked old m)
    → IsClosedFrom gates n new
closed_next base gates n name reads b old new order e f c count here more above =
    record {
      count = count ∙ c.count;
      closed = λ m g h k t. at_node m g h k t (cases_eq m n) (above n m (order n (gate_with name reads) e).smaller h);
    }
  where
    at_node : (m : ℕ) (g : Gate) → n ≤ m → slice_get gates m ≡ Some g → is_marked new m ≡ true → (m ≡ n) ⊎ (m ≢ n) → is_marked new m ≡ is_marked old m
        → IsCovered (is_or_gate g.name) gates new g.reads
    at_node m g h k t (inl p) same =
        let q : gate_with name reads ≡ g = same_gate (gate_with name reads) g (sym e ∙ (ap (λ (i : ℕ). slice_get gates i) (sym p) ∙ k)) in
        subst (λ (x : Gate). IsCovered (is_or_gate x.name) gates new x.reads) q (subst (λ (x : Bool). IsCovered x gates new reads) (sym f) here)
    at_node m g h k t (inr p) same = covered_stays (is_or_gate g.name) gates old new g.reads more (c.closed m g (omega arith) k (sym same ∙ t))

pub closed_skip : (gates : List Gate) (n : ℕ) (marks : List Bool) → is_marked marks n ≡ false → IsClosedFrom gates (n + 1) marks
    → IsClosedFrom gates n marks
closed_skip gates n marks e c = record { count = c.count; closed = λ m g h k t. at_node m g h k t (cases_eq m n) }
  where
    at_node : (m : ℕ) (g : Gate) → n ≤ m → slice_get gates m ≡ Some g → is_marked marks m ≡ true → (m ≡ n) ⊎ (m ≢ n)
        → IsCovered (is_or_gate g.name) gates marks g.reads
    at_node m g h k t (inl p) = let q : is_marked marks n ≡ true = rw (← p) t in absurd cc
    at_node m g h k t (inr p) = c.closed m g (omega arith) k t

pub mark_read : (marks : List Bool) (m : ℕ) (x b : Bool) → m < length marks → x ≡ get_or marks m x → x ≡ b → is_marked marks m ≡ b
mark_read marks m x b h e f = get_or_default marks m false x h ∙ (sym e ∙ f)

pub closed_none : (gates : List Gate) (n : ℕ) (marks : List Bool) → length marks ≡ length gates → length gates ≤ n → IsClosedFrom gates n marks
closed_none gates n marks e f = record { count = e; closed = λ m g h k t. absurd (let l = get-below gates m g k in omega arith) }
  where
    get-below : (gs : List Gate) (m : ℕ) (g : Gate) → slice_get gs m ≡ Some g → m < length gs
    get-below [] m g e = absurd cc
    get-below (x ∷ xs) zero g e = omega arith
    get-below (x ∷ xs) (suc m) g e = let l = get-below xs m g e in omega arith
