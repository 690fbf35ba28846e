-- Arrows that are added, and how they are found.
use Rattle.std.proofs.Common.{ℕ, ◌≡◌, ◌+◌, ◌-◌, ◌<◌, ◌≤◌, ◌⊎◌, inl, inr, List, [], ◌∷◌, ◌++◌, length, get_or, set, refl, sym, ◌∙◌, ap, arith}
use Rattle.std.proofs.Common.{length-append}
use Rattle.std.proofs.lemmas.List.{get_or-set_same, get_or-set_other, length-set}
use Rattle.std.proofs.Math.ListN.{get_or-append}
use Rattle.std.proofs.Math.Seq.{get_or-append_seam}
use Rattle.util_digraph.specs.declared.graph.Arrow.{Arrow}
use Rattle.util_digraph.specs.Graph.{arrow_at, AreLinked}

pub same_or : (k d : ℕ) → (k ≡ d) ⊎ (k ≡ d → ⊥)
same_or k d = grind arith

pub last_or : (k n : ℕ) → k < n + 1 → (k < n) ⊎ (k ≡ n)
last_or k n h = grind arith

pub arrow_before : (arrows : List Arrow) (a : Arrow) (k : ℕ) → k < length arrows → arrow_at (arrows ++ a ∷ []) k ≡ arrow_at arrows k
arrow_before arrows a k h = get_or-append arrows (a ∷ []) (record { from = 0; to = 0 }) k h

pub arrow_last : (arrows : List Arrow) (a : Arrow) (k : ℕ) → k ≡ length arrows → arrow_at (arrows ++ a ∷ []) k ≡ a
arrow_last arrows a k e = ap (λ (n : ℕ). arrow_at (arrows ++ a ∷ []) n) e ∙ get_or-append_seam arrows a [] (record { from = 0; to = 0 })

-- links as functions: n arrows between m nodes
record Linked (n m : ℕ) (from to end before : ℕ → ℕ) : Type 0 where
  from_in : (k : ℕ) → k < n → from k < m
  to_in : (k : ℕ) → k < n → to k < m
  end_in : (p : ℕ) → p < m → end p ≤ n
  end_own : (p : ℕ) → p < m → 0 < end p → from (end p - 1) ≡ p
  end_gap : (p k : ℕ) → p < m → end p ≤ k → k < n → from k ≡ p → ⊥
  before_in : (i : ℕ) → i < n → before i ≤ i
  before_own : (i : ℕ) → i < n → 0 < before i → from (before i - 1) ≡ from i
  before_gap : (i k : ℕ) → i < n → before i ≤ k → k < i → from k ≡ from i → ⊥

-- one more arrow, from p to q
record Added (n m p q : ℕ) (from to end before from' to' end' before' : ℕ → ℕ) : Type 0 where
  p_in : p < m
  q_in : q < m
  from_old : (k : ℕ) → k < n → from' k ≡ from k
  from_new : from' n ≡ p
  to_old : (k : ℕ) → k < n → to' k ≡ to k
  to_new : to' n ≡ q
  before_old : (k : ℕ) → k < n → before' k ≡ before k
  before_new : before' n ≡ end p
  end_old : (r : ℕ) → (r ≡ p → ⊥) → end' r ≡ end r
  end_new : end' p ≡ n + 1

linked_added : (n m p q : ℕ) (from to end before from' to' end' before' : ℕ → ℕ) → Linked n m from to end before
    → Added n m p q from to end before from' to' end' before' → Linked (n + 1) m from' to' end' before'
linked_added n m p q from to end before from' to' end' before' l a =
    record {
      from_in = λ k h. from_in k (last_or k n h);
      to_in = λ k h. to_in k (last_or k n h);
      end_in = λ r h. end_in r h (same_or r p);
      end_own = λ r h pos. end_own r h pos (same_or r p);
      end_gap = λ r k h past less e. end_gap r k h past e (same_or r p) (last_or k n less);
      before_in = λ i h. before_in i (last_or i n h);
      before_own = λ i h pos. before_own i pos (last_or i n h);
      before_gap = λ i k h past less e. before_gap i k past less e (last_or i n h);
    }
  where
    at : (f : ℕ → ℕ) (x y : ℕ) → x ≡ y → f x ≡ f y
    at f x y e = ap f e

    from_in : (k : ℕ) → (k < n) ⊎ (k ≡ n) → from' k < m
    from_in k (inl h) = omega (arith, a.from_old k h, l.from_in k h)
    from_in k (inr e) = omega (arith, at from' k n e, a.from_new, a.p_in)

    to_in : (k : ℕ) → (k < n) ⊎ (k ≡ n) → to' k < m
    to_in k (inl h) = omega (arith, a.to_old k h, l.to_in k h)
    to_in k (inr e) = omega (arith, at to' k n e, a.to_new, a.q_in)

    end_in : (r : ℕ) → r < m → (r ≡ p) ⊎ (r ≡ p → ⊥) → end' r ≤ n + 1
    end_in r h (inl e) = omega (arith, at end' r p e, a.end_new)
    end_in r h (inr o) = omega (arith, a.end_old r o, l.end_in r h)

    end_own : (r : ℕ) → r < m → 0 < end' r → (r ≡ p) ⊎ (r ≡ p → ⊥) → from' (end' r - 1) ≡ r
    end_own r h pos (inl e) =
        let last : end' r - 1 ≡ n = omega (arith, at end' r p e, a.end_new) in
        omega (arith, at from' (end' r - 1) n last, a.from_new, e)
    end_own r h pos (inr o) =
        let old = a.end_old r o in
        let pos' : 0 < end r = omega (arith, old, pos) in
        let less : end r - 1 < n = omega (arith, l.end_in r h, pos') in
        let same : end' r - 1 ≡ end r - 1 = omega (arith, old) in
        omega (arith, at from' (end' r - 1) (end r - 1) same, a.from_old (end r - 1) less, l.end_own r h pos')

    end_gap : (r k : ℕ) → r < m → end' r ≤ k → from' k ≡ r → (r ≡ p) ⊎ (r ≡ p → ⊥) → (k < n) ⊎ (k ≡ n) → ⊥
    end_gap r k h past e (inl s) (inl less) = omega (arith, at end' r p s, a.end_new, past, less)
    end_gap r k h past e (inl s) (inr last) = omega (arith, at end' r p s, a.end_new, past, last)
    end_gap r k h past e (inr o) (inl less) = l.end_gap r k h (omega (arith, a.end_old r o, past)) less (sym (a.from_old k less) ∙ e)
    end_gap r k h past e (inr o) (inr last) = o (omega (arith, at from' k n last, a.from_new, e))

    before_in : (i : ℕ) → (i < n) ⊎ (i ≡ n) → before' i ≤ i
    before_in i (inl h) = omega (arith, a.before_old i h, l.before_in i h)
    before_in i (inr e) = omega (arith, at before' i n e, a.before_new, l.end_in p a.p_in, e)

    before_own : (i : ℕ) → 0 < before' i → (i < n) ⊎ (i ≡ n) → from' (before' i - 1) ≡ from' i
    before_own i pos (inl h) =
        let old = a.before_old i h in
        let pos' : 0 < before i = omega (arith, old, pos) in
        let less : before i - 1 < n = omega (arith, l.before_in i h, pos', h) in
        let same : before' i - 1 ≡ before i - 1 = omega (arith, old) in
        omega (arith, at from' (before' i - 1) (before i - 1) same, a.from_old (before i - 1) less, l.before_own i h pos', a.from_old i h)
    before_own i pos (inr e) =
        let new : before' i ≡ end p = at before' i n e ∙ a.before_new in
        let pos' : 0 < end p = omega (arith, new, pos) in
        let less : end p - 1 < n = omega (arith, l.end_in p a.p_in, pos') in
        let same : before' i - 1 ≡ end p - 1 = omega (arith, new) in
        omega (arith, at from' (before' i - 1) (end p - 1) same, a.from_old (end p - 1) less, l.end_own p a.p_in pos', at from' i n e, a.from_new)

    before_gap : (i k : ℕ) → before' i ≤ k → k < i → from' k ≡ from' i → (i < n) ⊎ (i ≡ n) → ⊥
    before_gap i k past less e (inl h) =
        let k_in : k < n = omega (arith, less, h) in
        l.before_gap i k h (omega (arith, a.before_old i h, past)) less (sym (a.from_old k k_in) ∙ e ∙ a.from_old i h)
    before_gap i k past less e (inr last) =
        let k_in : k < n = omega (arith, less, last) in
        l.end_gap p k a.p_in (omega (arith, at before' i n last, a.before_new, past)) k_in
        (omega (arith, a.from_old k k_in, e, at from' i n last, a.from_new))

pub added : (arrows : List Arrow) (ends before : List ℕ) (p q : ℕ) → p < length ends → q < length ends → AreLinked arrows ends before
    → (arrows' : List Arrow) (ends' before' : List ℕ) → arrows' ≡ arrows ++ record { from = p; to = q } ∷ [] → ends' ≡ set ends p (length arrows + 1)
    → before' ≡ before ++ get_or ends p 0 ∷ [] → AreLinked arrows' ends' before'
added arrows ends before p q p_in q_in l arrows' ends' before' e f g =
    let more : length arrows' ≡ length arrows + 1 = ap length e ∙ grind (arith, length-append) in
    let same : length ends' ≡ length ends = ap length f ∙ length-set ends p (length arrows + 1) in
    let made : Linked (length arrows + 1) (length ends) (λ k. (arrow_at arrows' k).from) (λ k. (arrow_at arrows' k).to) (λ r. get_or ends' r 0)
    (λ i. get_or before' i 0)
    = linked_added (length arrows) (length ends) p q (λ k. (arrow_at arrows k).from) (λ k. (arrow_at arrows k).to) (λ r. get_or ends r 0)
    (λ i. get_or before i 0)
    (λ k. (arrow_at arrows' k).from) (λ k. (arrow_at arrows' k).to) (λ r. get_or ends' r 0) (λ i. get_or before' i 0) old new in
    record {
      same_length = ap length g ∙ (let s = l.same_length in grind (arith, length-append, s, more));
      from_in = λ k h. omega (arith, made.from_in k (omega (arith, h, more)), same);
      to_in = λ k h. omega (arith, made.to_in k (omega (arith, h, more)), same);
      end_in = λ r h. omega (arith, made.end_in r (omega (arith, h, same)), more);
      end_own = λ r h pos. made.end_own r (omega (arith, h, same)) pos;
      end_gap = λ r k h past less. made.end_gap r k (omega (arith, h, same)) past (omega (arith, less, more));
      before_in = λ i h. made.before_in i (omega (arith, h, more));
      before_own = λ i h pos. made.before_own i (omega (arith, h, more)) pos;
      before_gap = λ i k h past less. made.before_gap i k (omega (arith, h, more)) past less;
    }
  where
    old : Linked (length arrows) (length ends) (λ k. (arrow_at arrows k).from) (λ k. (arrow_at arrows k).to) (λ r. get_or ends r 0)
        (λ i. get_or before i 0)
    old = record {
      from_in = l.from_in;
      to_in = l.to_in;
      end_in = l.end_in;
      end_own = l.end_own;
      end_gap = l.end_gap;
      before_in = l.before_in;
      before_own = l.before_own;
      before_gap = l.before_gap;
    }

    earlier : (k : ℕ) → k < length arrows → arrow_at arrows' k ≡ arrow_at arrows k
    earlier k h = ap (λ (x : List Arrow). arrow_at x k) e ∙ arrow_before arrows (record { from = p; to = q }) k h

    newest : arrow_at arrows' (length arrows) ≡ record { from = p; to = q }
    newest = ap (λ (x : List Arrow). arrow_at x (length arrows)) e ∙ arrow_last arrows (record { from = p; to = q }) (length arrows) refl

    new : Added (length arrows) (length ends) p q (λ k. (arrow_at arrows k).from) (λ k. (arrow_at arrows k).to) (λ r. get_or ends r 0)
        (λ i. get_or before i 0)
        (λ k. (arrow_at arrows' k).from) (λ k. (arrow_at arrows' k).to) (λ r. get_or ends' r 0) (λ i. get_or before' i 0)
    new = record {
      p_in = p_in;
      q_in = q_in;
      from_old = λ k h. ap (λ (x : Arrow). x.from) (earlier k h);
      from_new = ap (λ (x : Arrow). x.from) newest;
      to_old = λ k h. ap (λ (x : Arrow). x.to) (earlier k h);
      to_new = ap (λ (x : Arrow). x.to) newest;
      before_old = λ k h. ap (λ (x : List ℕ). get_or x k 0) g
          ∙ get_or-append before (get_or ends p 0 ∷ []) 0 k (let s = l.same_length in omega (arith, h, s));
      before_new = ap (λ (x : List ℕ). get_or x (length arrows) 0) g ∙ ap (λ (n : ℕ). get_or (before ++ get_or ends p 0 ∷ []) n 0) (sym l.same_length)
          ∙ get_or-append_seam before (get_or ends p 0) [] 0;
      end_old = λ r o. ap (λ (x : List ℕ). get_or x r 0) f ∙ get_or-set_other ends p r (length arrows + 1) 0 o;
      end_new = ap (λ (x : List ℕ). get_or x p 0) f ∙ get_or-set_same ends p (length arrows + 1) 0 p_in;
    }
