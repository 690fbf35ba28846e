-- This crate's own: what `run` promises does not rest on it.
-- Numbers in the order in which they were added, each once.
use Rattle.std.specs.Prelude.{ℕ, zero, suc, cond, nat_eq, ◌≡◌, List, slice_index}
use Rattle.std.specs.List.{list_any, IsDistinct}
use Rattle.statement.specs.Printed.{first_place}

-- the numbers, in order
pub record Members : Type 0 where
  pub keys : List ℕ

-- one more than the place of a number, and 0 where it is not among them
abbrev pub ticket_of : List ℕ → ℕ → ℕ
ticket_of members n = cond (list_any (nat_eq n) members) (suc (first_place (nat_eq n) members)) zero

-- what is noted of each number
abbrev pub AreTickets : List ℕ → List ℕ → Type 0
AreTickets members tickets = (n : ℕ) → slice_index tickets n ≡ ticket_of members n

-- each number stands once, and what is noted tells its place
pub record IsNumberSet (members tickets : List ℕ) : Type 0 where
  pub noted : AreTickets members tickets
  pub distinct : IsDistinct nat_eq members
