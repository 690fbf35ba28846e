-- This crate's own: what `run` promises does not rest on it.
-- Lists of numbers, picked one from each part.
use Rattle.std.specs.Prelude.{ℕ, ◌-◌, List, [], ◌∷◌, ◌++◌, map, Vec}
use Rattle.std.specs.List.{range_with_len}
use Rattle.rules_clauses.specs.declared.numbered.Span.{Span}

-- the numbers of what stands from a place up to another
abbrev pub numbers_of : Span → List ℕ
numbers_of s = range_with_len s.from (s.to - s.from)

-- those of several, one after the other
abbrev pub numbers_in : List Span → List ℕ
numbers_in [] = []
numbers_in (s ∷ ss) = numbers_of s ++ numbers_in ss

-- the lists of numbers in memory
abbrev pub lists_of : {G : Type 0} → List (Vec Span G) → List (List ℕ)
lists_of vs = map (λ v. numbers_in v.items) vs

-- every list of the second with the numbers before it
abbrev pub numbers_behind_each : List ℕ → List (List ℕ) → List (List ℕ)
numbers_behind_each a [] = []
numbers_behind_each a (b ∷ bs) = (a ++ b) ∷ numbers_behind_each a bs

-- every pick of one of the first and one of the second, the first changing slowest
abbrev pub number_picks : List (List ℕ) → List (List ℕ) → List (List ℕ)
number_picks [] bs = []
number_picks (a ∷ as') bs = numbers_behind_each a bs ++ number_picks as' bs
