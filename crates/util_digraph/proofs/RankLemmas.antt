-- Ranks, one node after the other.
use Rattle.std.proofs.Common.{ℕ, zero, suc, ◌≡◌, ◌+◌, ◌<◌, ◌≤◌, ◌⊎◌, inl, inr, Bool, true, false, cond, List, [], ◌∷◌, length, get_or, set}
use Rattle.std.proofs.Common.{refl, sym, ◌∙◌, ap, subst, arith}
use Rattle.std.proofs.lemmas.List.{get_or-set_same, get_or-set_other, length-set}
use Rattle.util_digraph.specs.declared.graph.Arrow.{Arrow}
use Rattle.util_digraph.specs.Graph.{arrow_at, Stands, IsOrder}
use Rattle.util_digraph.specs.Ranks.{IsRank, floor_at, AreRanks}
use Rattle.util_digraph.proofs.GraphLemmas.{same_or, last_or}

-- there is one rank
rank_le : (arrows : List Arrow) (ranks : List ℕ) (floor p r s : ℕ) → IsRank arrows ranks floor p r → IsRank arrows ranks floor p s → r ≤ s
rank_le arrows ranks floor p r s a b = elim a.attained [
  | inl e ↦ (let h = b.least in omega (arith, e, h))
  | inr k ↦ (let h = b.above k.0 k.1 k.2 in let e = k.3 in omega (arith, e, h))
]

pub rank_same : (arrows : List Arrow) (ranks : List ℕ) (floor p r s : ℕ) → IsRank arrows ranks floor p r → IsRank arrows ranks floor p s → r ≡ s
rank_same arrows ranks floor p r s a b = (let f = rank_le arrows ranks floor p r s a b in let g = rank_le arrows ranks floor p s r b a in
    omega (arith, f, g))

-- the first j nodes of the order have their rank
pub record Ranking (arrows : List Arrow) (n : ℕ) (rests : List Bool) (order : List ℕ) (j : ℕ) (ranks : List ℕ) : Type 0 where
  pub ranks_are : length ranks ≡ n
  pub small : (p : ℕ) → get_or ranks p 0 ≤ j
  pub each : (i : ℕ) → i < j → IsRank arrows ranks (floor_at rests (get_or order i 0)) (get_or order i 0) (get_or ranks (get_or order i 0) 0)

floor_small : (b : Bool) → cond b 1 0 ≤ 1
floor_small true = omega arith
floor_small false = omega arith

set_same : (xs : List ℕ) (i y : ℕ) → y ≡ get_or xs i 0 → set xs i y ≡ xs
set_same [] i y e = refl
set_same (x ∷ xs) zero y e = ap (λ (z : ℕ). z ∷ xs) e
set_same (x ∷ xs) (suc i) y e = ap (λ (zs : List ℕ). x ∷ zs) (set_same xs i y e)

-- other ranks do not matter
elsewhere : (arrows : List Arrow) (ranks ranks' : List ℕ) (floor p r : ℕ)
    → ((k : ℕ) → k < length arrows → (arrow_at arrows k).from ≡ p → get_or ranks' (arrow_at arrows k).to 0 ≡ get_or ranks (arrow_at arrows k).to 0)
    → IsRank arrows ranks floor p r → IsRank arrows ranks' floor p r
elsewhere arrows ranks ranks' floor p r same a = record {
  least = a.least;
  above = λ k h own. (let e = same k h own in let g = a.above k h own in omega (arith, e, g));
  attained = elim a.attained [ inl e ↦ inl e | inr k ↦ inr (k.0, k.1, k.2, (let e = same k.0 k.1 k.2 in let g = k.3 in omega (arith, e, g))) ];
}

pub ranked_more : (arrows : List Arrow) (n : ℕ) (rests : List Bool) (order : List ℕ) (j : ℕ) (ranks : List ℕ) (r : ℕ) → IsOrder arrows n order
    → j < length order
    → Ranking arrows n rests order j ranks → IsRank arrows ranks (floor_at rests (get_or order j 0)) (get_or order j 0) r
    → Ranking arrows n rests order (j + 1) (set ranks (get_or order j 0) r)
ranked_more arrows n rests order j ranks r o j_in s new = record {
  ranks_are = length-set ranks node r ∙ s.ranks_are;
  small = λ p. small p (same_or p node);
  each = λ i h. each i (last_or i j h) (same_or r (get_or ranks node 0));
}
  where
    node : ℕ
    node = get_or order j 0

    node_in : node < length ranks
    node_in = let h = o.inside j j_in in let e = s.ranks_are in omega (arith, h, e)

    at : (p : ℕ) → p ≡ node → get_or (set ranks node r) p 0 ≡ r
    at p e = ap (λ (x : ℕ). get_or (set ranks node r) x 0) e ∙ get_or-set_same ranks node r 0 node_in

    bound : r ≤ j + 1
    bound = elim new.attained [
      | inl e ↦ (let h = floor_small (get_or rests node false) in omega (arith, e, h))
      | inr k ↦ (let h = s.small (arrow_at arrows k.0).to in let e = k.3 in omega (arith, e, h))
    ]

    small : (p : ℕ) → (p ≡ node) ⊎ (p ≡ node → ⊥) → get_or (set ranks node r) p 0 ≤ j + 1
    small p (inl e) = let f = at p e in omega (arith, f, bound)
    small p (inr other) = let f = get_or-set_other ranks node p r 0 other in let h = s.small p in omega (arith, f, h)

    -- a node that was ranked already has this rank
    fresh : (r ≡ get_or ranks node 0 → ⊥) → (i : ℕ) → i < j → get_or order i 0 ≡ node → ⊥
    fresh differs i h e =
        differs (rank_same arrows ranks (floor_at rests node) node r (get_or ranks node 0) new
        (subst (λ (x : ℕ). IsRank arrows ranks (floor_at rests x) x (get_or ranks x 0)) e (s.each i h)))

    kept : (r ≡ get_or ranks node 0 → ⊥) → (i : ℕ) → i ≤ j → i < length order → (k : ℕ) → k < length arrows
        → (arrow_at arrows k).from ≡ get_or order i 0
        → get_or (set ranks node r) (arrow_at arrows k).to 0 ≡ get_or ranks (arrow_at arrows k).to 0
    kept differs i h i_in k k_in own =
        let b = o.back i k i_in k_in own in
        get_or-set_other ranks node (arrow_at arrows k).to r 0 (λ e. fresh differs b.0 (let g = b.1 in omega (arith, g, h)) (b.2 ∙ e))

    each : (i : ℕ) → (i < j) ⊎ (i ≡ j) → (r ≡ get_or ranks node 0) ⊎ (r ≡ get_or ranks node 0 → ⊥)
        → IsRank arrows (set ranks node r) (floor_at rests (get_or order i 0)) (get_or order i 0) (get_or (set ranks node r) (get_or order i 0) 0)
    each i (inl h) (inl same) =
        subst (λ (x : List ℕ). IsRank arrows x (floor_at rests (get_or order i 0)) (get_or order i 0) (get_or x (get_or order i 0) 0))
        (sym (set_same ranks node r same)) (s.each i h)
    each i (inl h) (inr differs) =
        subst (λ (x : ℕ). IsRank arrows (set ranks node r) (floor_at rests (get_or order i 0)) (get_or order i 0) x)
        (sym (get_or-set_other ranks node (get_or order i 0) r 0 (fresh differs i h)))
        (elsewhere arrows ranks (set ranks node r) (floor_at rests (get_or order i 0)) (get_or order i 0) (get_or ranks (get_or order i 0) 0)
        (kept differs i (omega (arith, h)) (omega (arith, h, j_in))) (s.each i h))
    each i (inr e) (inl same) =
        subst (λ (x : ℕ). IsRank arrows (set ranks node r) (floor_at rests (get_or order x 0)) (get_or order x 0)
        (get_or (set ranks node r) (get_or order x 0) 0)) (sym e)
        (subst (λ (x : ℕ). IsRank arrows (set ranks node r) (floor_at rests node) node x) (sym (at node refl))
        (subst (λ (x : List ℕ). IsRank arrows x (floor_at rests node) node r) (sym (set_same ranks node r same)) new))
    each i (inr e) (inr differs) =
        subst (λ (x : ℕ). IsRank arrows (set ranks node r) (floor_at rests (get_or order x 0)) (get_or order x 0)
        (get_or (set ranks node r) (get_or order x 0) 0)) (sym e)
        (subst (λ (x : ℕ). IsRank arrows (set ranks node r) (floor_at rests node) node x) (sym (at node refl))
        (elsewhere arrows ranks (set ranks node r) (floor_at rests node) node r (kept differs j (omega arith) j_in) new))

pub all_ranked : (arrows : List Arrow) (n : ℕ) (rests : List Bool) (order : List ℕ) (j : ℕ) (ranks : List ℕ) → IsOrder arrows n order
    → length rests ≡ n → length order ≤ j
    → Ranking arrows n rests order j ranks → AreRanks arrows rests ranks
all_ranked arrows n rests order j ranks o e whole s = record {
  length_is = s.ranks_are ∙ sym e;
  each = λ p h. each p (o.all p (omega (arith, h, e)));
}
  where
    each : (p : ℕ) → Stands order p → IsRank arrows ranks (floor_at rests p) p (get_or ranks p 0)
    each p t = subst (λ (x : ℕ). IsRank arrows ranks (floor_at rests x) x (get_or ranks x 0)) t.2
        (s.each t.0 (let h = t.1 in omega (arith, h, whole)))

pub same_rank : (arrows : List Arrow) (ranks ranks' : List ℕ) (floor floor' p r : ℕ) → ranks ≡ ranks' → floor ≡ floor' → IsRank arrows ranks floor p r
    → IsRank arrows ranks' floor' p r
same_rank arrows ranks ranks' floor floor' p r e f h =
    subst (λ (x : List ℕ). IsRank arrows x floor' p r) e (subst (λ (x : ℕ). IsRank arrows ranks x p r) f h)

pub byte_floor : (f : Bool → ℕ) → f true ≡ 1 → f false ≡ 0 → (b : Bool) → f b ≡ cond b 1 0
byte_floor f e g true = e
byte_floor f e g false = g
