-- This crate's own: what `run` promises does not rest on it.
-- What is done with each literal of a body for a row.
use Rattle.std.specs.Prelude.{ℕ, ◌≡◌, ◌⊎◌, true, false, List, [], ◌∷◌, ◌++◌, length, Option, Some, None, nat_eq, slice_get, slice_index_or, unwrap_or}
use Rattle.statement.specs.Printed.{first_place}
use Rattle.rules_clauses.specs.declared.numbered.Part.{Part}
use Rattle.rules_clauses.specs.declared.numbered.Part.TheVariants as parts
use Rattle.ground_matching.specs.declared.placed.Mark.{Mark}
use Rattle.ground_rows.specs.declared.literal_steps.Side.{Side}
use Rattle.ground_rows.specs.declared.literal_steps.Side.TheVariants.{Place, Term}
use Rattle.ground_rows.specs.declared.literal_steps.LiteralStep.{LiteralStep}
use Rattle.ground_rows.specs.declared.literal_steps.LiteralStep.TheVariants.{Pass, Read, Compare, Same, Build}

-- the part with places that is compared
abbrev pub part_of : Side → Part
part_of (Place p) = parts.Variable p
part_of (Term t) = parts.Constant t

-- where a row has the number of a literal's atom
abbrev pub row_place : LiteralStep → Option ℕ
row_place Pass = None
row_place (Read p) = Some p
row_place (Compare n l r) = None
row_place (Same n) = None
row_place Build = None

-- where a number stands among numbers
abbrev pub place_in : List ℕ → Option ℕ → Option ℕ
place_in numbers (Some k) = Some (first_place (nat_eq k) numbers)
place_in numbers None = None

-- parts are twice the same ones
abbrev pub AreTwice : List Part → Type 0
AreTwice ps = (half : List Part) × (ps ≡ half ++ half)

-- a step is one for a literal with this mark, whose atom has these parts with places
abbrev pub IsLiteralStep : Mark → List Part → LiteralStep → Type 0
IsLiteralStep m ps Pass = m.is_settled ≡ true
IsLiteralStep m ps (Read p) = m.is_settled ≡ false
IsLiteralStep m ps (Compare n l r) = (m.is_settled ≡ false) × (m.is_pair ≡ true) × (m.is_negated ≡ n) × (ps ≡ part_of l ∷ (part_of r ∷ []))
IsLiteralStep m ps (Same n) = (m.is_settled ≡ false) × (m.is_pair ≡ true) × (m.is_negated ≡ n) × AreTwice ps
IsLiteralStep m ps Build = m.is_settled ≡ false

-- and reads the number of the atom where that stands, if it reads it
abbrev pub IsStepAt : Mark → List Part → Option ℕ → LiteralStep → Type 0
IsStepAt m ps o s = IsLiteralStep m ps s × ((row_place s ≡ None) ⊎ (row_place s ≡ o))

-- a step for each literal
pub record AreSteps (marks : List Mark) (parts : List (List Part)) (places : List (Option ℕ)) (steps : List LiteralStep) : Type 0 where
  pub many : length steps ≡ length marks
  pub each : (i : ℕ) (s : LiteralStep) → slice_get steps i ≡ Some s → (m : Mark) → slice_get marks i ≡ Some m
      → IsStepAt m (slice_index_or parts i []) (unwrap_or (slice_get places i) None) s
