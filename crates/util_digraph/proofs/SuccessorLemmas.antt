-- The targets of a node's arrows, one after the other.
use Rattle.std.proofs.Common.{ℕ, zero, suc, ◌≡◌, ◌≢◌, ◌+◌, ◌-◌, ◌<◌, ◌≤◌, ◌⊎◌, inl, inr, ◌==◌, eq-eqb, ne_eqb, max, Bool, true, false, cond, List, []}
use Rattle.std.proofs.Common.{◌∷◌, length, get_or}
use Rattle.std.proofs.Common.{refl, sym, ◌∙◌, ap, subst, arith}
use Rattle.std.proofs.lemmas.Bool.{eqb-true}
use Rattle.std.specs.Prelude.{All}
use Rattle.util_digraph.specs.declared.graph.Arrow.{Arrow}
use Rattle.util_digraph.specs.Graph.{arrow_at, AreLinked}
use Rattle.util_digraph.specs.Ranks.{IsRank}
use Rattle.util_digraph.specs.Successors.{targets_among, successors_of, IsEndOf}
use Rattle.util_digraph.proofs.Search.{read_nat, read_arrow}

lower_or : (k m : ℕ) → k ≤ suc m → (k ≤ m) ⊎ (k ≡ suc m)
lower_or k m h = grind arith

-- arrows of other nodes do not count
pub passed_over : (arrows : List Arrow) (node k m : ℕ) → k ≤ m → ((i : ℕ) → k ≤ i → i < m → (arrow_at arrows i).from ≢ node)
    → targets_among arrows node m ≡ targets_among arrows node k
passed_over arrows node k zero h none = ap (targets_among arrows node) (let e : 0 ≡ k = omega (arith, h) in e)
passed_over arrows node k (suc m) h none =
    go (lower_or k m h) (λ le. passed_over arrows node k m le (λ i past less. none i past (omega (arith, less))))
  where
    go : (k ≤ m) ⊎ (k ≡ suc m) → (k ≤ m → targets_among arrows node m ≡ targets_among arrows node k)
        → targets_among arrows node (suc m) ≡ targets_among arrows node k
    go (inr e) rest = ap (targets_among arrows node) (sym e)
    go (inl le) rest =
        ap (λ (b : Bool). cond b ((arrow_at arrows m).to ∷ targets_among arrows node m) (targets_among arrows node m))
        (ne_eqb (arrow_at arrows m).from node (none m le (omega arith)))
        ∙ rest le

one_more : (end : ℕ) → 0 < end → end ≡ suc (end - 1)
one_more end h = omega (arith, h)

-- the last arrow of a node comes first
pub next_target : (arrows : List Arrow) (ends before : List ℕ) (node end next : ℕ) (a : Arrow) → AreLinked arrows ends before
    → IsEndOf arrows node end → 0 < end
    → a ≡ get_or arrows (end - 1) a → next ≡ get_or before (end - 1) next → targets_among arrows node end ≡ a.to ∷ targets_among arrows node next
next_target arrows ends before node end next a l e some read next_read =
    ap (targets_among arrows node) (one_more end some)
    ∙ ap (λ (b : Bool). cond b ((arrow_at arrows (end - 1)).to ∷ targets_among arrows node (end - 1)) (targets_among arrows node (end - 1)))
    (eq-eqb (arrow_at arrows (end - 1)).from node own)
    ∙ ap (λ (t : ℕ). t ∷ targets_among arrows node (end - 1)) (ap (λ (x : Arrow). x.to) (read_arrow arrows (end - 1) a inside read))
    ∙ ap (λ (ts : List ℕ). a.to ∷ ts) (passed_over arrows node next (end - 1) next_in
    (λ i past less same. l.before_gap (end - 1) i inside (omega (arith, next_is, past)) less (same ∙ sym own)))
  where
    inside : end - 1 < length arrows
    inside = let h = e.inside in omega (arith, h, some)

    own : (arrow_at arrows (end - 1)).from ≡ node
    own = e.own some

    next_is : get_or before (end - 1) 0 ≡ next
    next_is = read_nat before (end - 1) next (let g = l.same_length in omega (arith, inside, g)) next_read

    next_in : next ≤ end - 1
    next_in = let h = l.before_in (end - 1) inside in omega (arith, h, next_is)

-- the end of a node stands behind all of its arrows
pub first_end : (arrows : List Arrow) (ends before : List ℕ) (node end : ℕ) → AreLinked arrows ends before → node < length ends
    → end ≡ get_or ends node end → IsEndOf arrows node end
first_end arrows ends before node end l node_in read =
    let e = read_nat ends node end node_in read in
    record {
      inside = (let h = l.end_in node node_in in omega (arith, h, e));
      own = λ h. ap (λ (x : ℕ). (arrow_at arrows (x - 1)).from) (sym e) ∙ l.end_own node node_in (omega (arith, e, h));
    }

pub all_targets : (arrows : List Arrow) (ends before : List ℕ) (node end : ℕ) → AreLinked arrows ends before → node < length ends
    → end ≡ get_or ends node end
    → targets_among arrows node end ≡ successors_of arrows node
all_targets arrows ends before node end l node_in read =
    let e = read_nat ends node end node_in read in
    let h = l.end_in node node_in in
    sym (passed_over arrows node end (length arrows) (omega (arith, h, e)) (λ i past less. l.end_gap node i node_in (omega (arith, e, past)) less))

-- all targets are nodes
all_one_more : (P : ℕ → Type 0) (x : ℕ) (xs : List ℕ) → P x → All P xs → All P (x ∷ xs)
all_one_more P x xs here rest zero d h = here
all_one_more P x xs here rest (suc i) d h = rest i d (omega (arith, h))

pub targets_inside : (arrows : List Arrow) (node n nodes : ℕ) → n ≤ length arrows → ((k : ℕ) → k < length arrows → (arrow_at arrows k).to < nodes)
    → All (λ t. t < nodes) (targets_among arrows node n)
targets_inside arrows node zero nodes h to_in = λ i d lt. absurd (let bad : ⊥ = omega (arith, lt) in bad)
targets_inside arrows node (suc n) nodes h to_in =
    go ((arrow_at arrows n).from == node) (targets_inside arrows node n nodes (omega (arith, h)) to_in)
  where
    go : (b : Bool) → All (λ t. t < nodes) (targets_among arrows node n)
        → All (λ t. t < nodes) (cond b ((arrow_at arrows n).to ∷ targets_among arrows node n) (targets_among arrows node n))
    go true rest = all_one_more (λ t. t < nodes) (arrow_at arrows n).to (targets_among arrows node n) (to_in n (omega (arith, h))) rest
    go false rest = rest

-- the greatest of a floor and of one more than the rank of each
abbrev pub highest : List ℕ → ℕ → List ℕ → ℕ
highest ranks floor [] = floor
highest ranks floor (t ∷ ts) = highest ranks (max floor (get_or ranks t 0 + 1)) ts

-- what it is, for the arrows of a node among the first n
record IsHighest (arrows : List Arrow) (ranks : List ℕ) (node n floor top : ℕ) : Type 0 where
  least : floor ≤ top
  above : (k : ℕ) → k < n → (arrow_at arrows k).from ≡ node → get_or ranks (arrow_at arrows k).to 0 < top
  attained : (top ≡ floor) ⊎ ((k : ℕ) × (k < n) × ((arrow_at arrows k).from ≡ node) × (top ≡ get_or ranks (arrow_at arrows k).to 0 + 1))

max_either : (a b : ℕ) → (max a b ≡ a) ⊎ (max a b ≡ b)
max_either a b = grind arith

max_more : (a b : ℕ) → (a ≤ max a b) × (b ≤ max a b)
max_more a b = (grind arith, grind arith)

last_or_below : (k n : ℕ) → k < suc n → (k < n) ⊎ (k ≡ n)
last_or_below k n h = grind arith

is_highest : (arrows : List Arrow) (ranks : List ℕ) (node n floor : ℕ)
    → IsHighest arrows ranks node n floor (highest ranks floor (targets_among arrows node n))
is_highest arrows ranks node zero floor = record { least = omega arith; above = λ k h. absurd (omega (arith, h)); attained = inl refl }
is_highest arrows ranks node (suc n) floor =
    go ((arrow_at arrows n).from == node) refl (is_highest arrows ranks node n (max floor rank)) (is_highest arrows ranks node n floor)
  where
    rank : ℕ
    rank = get_or ranks (arrow_at arrows n).to 0 + 1

    mine : (arrow_at arrows n).from ≡ node
        → (r : IsHighest arrows ranks node n (max floor rank) (highest ranks (max floor rank) (targets_among arrows node n)))
        → IsHighest arrows ranks node (suc n) floor (highest ranks (max floor rank) (targets_among arrows node n))
    mine own r = record {
      least = (let a = r.least in let b = (max_more floor rank).0 in omega (arith, a, b));
      above = λ k h k_own. elim (last_or_below k n h) [
        | inl less ↦ r.above k less k_own
        | inr same ↦ (let a = r.least in let b = (max_more floor rank).1 in let e = ap (λ (x : ℕ). get_or ranks (arrow_at arrows x).to 0) same in
            omega (arith, a, b, e))
      ];
      attained = elim r.attained [
        | inl top ↦ elim (max_either floor rank) [ inl m ↦ inl (top ∙ m) | inr m ↦ inr (n, omega arith, own, top ∙ m) ]
        | inr k ↦ inr (k.0, (let h = k.1 in omega (arith, h)), k.2, k.3)
      ];
    }

    other : ((arrow_at arrows n).from == node) ≡ false → (r : IsHighest arrows ranks node n floor (highest ranks floor (targets_among arrows node n)))
        → IsHighest arrows ranks node (suc n) floor (highest ranks floor (targets_among arrows node n))
    other differs r = record {
      least = r.least;
      above = λ k h k_own. elim (last_or_below k n h) [
        | inl less ↦ r.above k less k_own
        | inr same ↦ absurd (let e = eq-eqb (arrow_at arrows n).from node (ap (λ (x : ℕ). (arrow_at arrows x).from) (sym same) ∙ k_own) in cc)
      ];
      attained = elim r.attained [ inl top ↦ inl top | inr k ↦ inr (k.0, (let h = k.1 in omega (arith, h)), k.2, k.3) ];
    }

    go : (b : Bool) → ((arrow_at arrows n).from == node) ≡ b
        → IsHighest arrows ranks node n (max floor rank) (highest ranks (max floor rank) (targets_among arrows node n))
        → IsHighest arrows ranks node n floor (highest ranks floor (targets_among arrows node n))
        → IsHighest arrows ranks node (suc n) floor
        (highest ranks floor (cond b ((arrow_at arrows n).to ∷ targets_among arrows node n) (targets_among arrows node n)))
    go true e raised as_before = mine (eqb-true _ _ e) raised
    go false e raised as_before = other e as_before

-- the rank of a node is the highest over its successors
pub rank_is_highest : (arrows : List Arrow) (ranks : List ℕ) (floor node rank : ℕ) → rank ≡ highest ranks floor (successors_of arrows node)
    → IsRank arrows ranks floor node rank
rank_is_highest arrows ranks floor node rank e =
    let h = is_highest arrows ranks node (length arrows) floor in
    subst (λ (r : ℕ). IsRank arrows ranks floor node r) (sym e) (record { least = h.least; above = h.above; attained = h.attained })

-- one successor more
pub record Raised (arrows : List Arrow) (ranks : List ℕ) (floor node rank : ℕ) (left : List ℕ) : Type 0 where
  pub top : highest ranks rank left ≡ highest ranks floor (successors_of arrows node)
  pub inside : All (λ t. t < length ranks) left

pub raised_more : (arrows : List Arrow) (ranks : List ℕ) (floor node rank t r new : ℕ) (left rest : List ℕ) → Raised arrows ranks floor node rank left
    → left ≡ t ∷ rest → r ≡ get_or ranks t 0 → new ≡ max rank (r + 1) → Raised arrows ranks floor node new rest
raised_more arrows ranks floor node rank t r new left rest a e read same = record {
  top = ap (λ (x : ℕ). highest ranks x rest) (same ∙ ap (λ (x : ℕ). max rank (x + 1)) read) ∙ sym (ap (highest ranks rank) e) ∙ a.top;
  inside = λ i d h. (subst (λ (ts : List ℕ). All (λ u. u < length ranks) ts) e a.inside) (suc i) d (omega (arith, h));
}

pub raised_all : (arrows : List Arrow) (ranks : List ℕ) (floor node rank : ℕ) (left : List ℕ) → Raised arrows ranks floor node rank left → left ≡ []
    → IsRank arrows ranks floor node rank
raised_all arrows ranks floor node rank left a e = rank_is_highest arrows ranks floor node rank (sym (ap (highest ranks rank) e) ∙ a.top)
