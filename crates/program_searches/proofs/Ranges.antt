-- The first number of a range that passes a test.
use Rattle.std.proofs.Common.{◌≡◌, ℕ, ◌+◌, ◌<◌, ◌≤◌, Bool, true, false, zero, suc, refl, ◌∙◌, ap, arith, inl, inr, Some, None}
use Rattle.std.specs.Prelude.{find}
use Rattle.std.specs.List.{range_with_len}
use Rattle.std.proofs.Math.Nat.{eq-or-lt_of_le}

pub find_range : (p : ℕ → Bool) (a n k : ℕ) → a ≤ k → k < a + n → ((j : ℕ) → a ≤ j → j < k → p j ≡ false) → p k ≡ true
    → find p (range_with_len a n) ≡ Some k
find_range p a zero k from to h passes = absurd (omega arith)
find_range p a (suc n) k from to h passes =
    elim (eq-or-lt_of_le from) [
      | inl e ↦
          let here : p a ≡ true = ap p e ∙ passes in
          rw here (ap (λ (x : ℕ). Some x) e)
      | inr lt ↦
          let here : p a ≡ false = h a (omega arith) lt in
          let found : find p (range_with_len (a + 1) n) ≡ Some k =
          find_range p (a + 1) n k (omega arith) (omega arith) (λ j after before. h j (omega arith) before) passes in
          rw here found
    ]

pub find_range_none : (p : ℕ → Bool) (a n : ℕ) → ((k : ℕ) → a ≤ k → k < a + n → p k ≡ false) → find p (range_with_len a n) ≡ None
find_range_none p a zero h = refl
find_range_none p a (suc n) h =
    let here : p a ≡ false = h a (omega arith) (omega arith) in
    let rest : find p (range_with_len (a + 1) n) ≡ None = find_range_none p (a + 1) n (λ k from to. h k (omega arith) (omega arith)) in
    rw here rest
