-- This crate's own: what `run` promises does not rest on it.
-- Numbers of bytes by their decimal digits.
use Rattle.std.specs.Prelude.{ℕ, ◌≡◌, ◌+◌, ◌-◌, ◌*◌, ◌^◌, ◌<◌, ◌&&◌, Bool, true, List, [], ◌∷◌, length, nat_le}

abbrev pub is_digit : ℕ → Bool
is_digit c = nat_le 48 c && nat_le c 57

abbrev pub are_digits : List ℕ → Bool
are_digits [] = true
are_digits (c ∷ cs) = is_digit c && are_digits cs

-- the number that the digits write when they follow those of n
abbrev pub number_after : ℕ → List ℕ → ℕ
number_after n [] = n
number_after n (c ∷ cs) = number_after (n * 10 + (c - 48)) cs

-- one digit or more, of a number that 64 bits hold
pub record IsSize (digits : List ℕ) (n : ℕ) : Type 0 where
  pub some : 0 < length digits
  pub all : are_digits digits ≡ true
  pub number : number_after 0 digits ≡ n
  pub fits : n < 2 ^ 64
