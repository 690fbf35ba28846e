-- Tickets of numbers.
use Rattle.std.proofs.Common.{◌≡◌, ℕ, zero, suc, ◌+◌, ◌-◌, refl, ap, arith, Some}
use Rattle.propnet.specs.Slots.{number_of_ticket}

pub ticket_next : (n : ℕ) → number_of_ticket (n + 1) ≡ Some n
ticket_next n = ap number_of_ticket (next n)
  where
    next : (m : ℕ) → m + 1 ≡ suc m
    next m = omega arith

pub ticket_back : (t : ℕ) → (t ≡ 0 → ⊥) → Some (t - 1) ≡ number_of_ticket t
ticket_back zero some = absurd (some refl)
ticket_back (suc n) some = ap (λ (m : ℕ). Some m) (let same : suc n - 1 ≡ n = omega arith in same)
