-- This crate's own: what `run` promises does not rest on it.
-- Lists in order, and the place of a member.
use Rattle.std.specs.Prelude.{ℕ, ◌≡◌, ◌<◌, ◌⊎◌, List, [], ◌∷◌}
use Rattle.statement.specs.Printed.{AreInOrder}

-- no member stands twice
abbrev pub AreDistinct : {A : Type 0} → List A → Type 0
AreDistinct xs = AreInOrder (λ x y. x ≡ y → ⊥) xs

-- of two lists of numbers, the first numbers that differ decide
abbrev pub IsLess : List ℕ → List ℕ → Type 0
IsLess [] ns = ⊥
IsLess (m ∷ ms) [] = ⊥
IsLess (m ∷ ms) (n ∷ ns) = (m < n) ⊎ ((m ≡ n) × IsLess ms ns)
