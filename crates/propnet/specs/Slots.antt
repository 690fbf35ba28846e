-- This crate's own: what `run` promises does not rest on it.
-- A number, or none, as one number: one more than it, and 0 where there is none.
use Rattle.std.specs.Prelude.{ℕ, zero, suc, Option, None, Some, ◌≡◌, refl}

abbrev pub number_of_ticket : ℕ → Option ℕ
number_of_ticket zero = None
number_of_ticket (suc n) = Some n

abbrev pub slot_ticket : Option ℕ → ℕ
slot_ticket None = zero
slot_ticket (Some n) = suc n

pub slot_ticket-number : (ticket : ℕ) → slot_ticket (number_of_ticket ticket) ≡ ticket
slot_ticket-number zero = refl
slot_ticket-number (suc n) = refl
