-- This crate's own: what `run` promises does not rest on it.
-- Atoms of which the first are those of fixed relations.
use Rattle.std.specs.Prelude.{ℕ, ◌≡◌, ◌+◌, nat_lt, List, [], ◌∷◌, ⊤}
use Rattle.statement.specs.Clause.{Atom, Alternative, relation_of}
use Rattle.statement.specs.Dependence.{is_fixed}

-- from a place on, the atoms before place n are of fixed relations, and the others of none
abbrev pub FixedBefore : List Alternative → ℕ → ℕ → List Atom → Type 0
FixedBefore rules n place [] = ⊤
FixedBefore rules n place (x ∷ xs) = (is_fixed rules (relation_of x) ≡ nat_lt place n) × FixedBefore rules n (place + 1) xs
