-- This crate's own: what `run` promises does not rest on it.
-- Marks of base propositions, each of which is there for a reason.
use Rattle.std.specs.Prelude.{ℕ, ◌≡◌, Bool, true, false, List, slice_index_or}
use Rattle.statement.specs.Kept.{Kept}
use Rattle.statement.specs.declared.kind.Kind.{Kind}
use Rattle.statement.specs.declared.kind.Kind.TheVariants.{Now}
use Rattle.unroll.specs.ReachedByNumber.{kind_in, IsReachedSometime}

abbrev pub IsMarked : List Bool → ℕ → Type 0
IsMarked marks k = slice_index_or marks k false ≡ true

-- play comes to all that is marked
abbrev pub AreReached : List Kind → List Kept → List Bool → Type 0
AreReached kinds kept marks = (k : ℕ) → IsMarked marks k → IsReachedSometime kinds kept k

-- the literal is not negated, and says of this base proposition that it is in the state
abbrev pub Asks : List Kind → ℕ × Bool → ℕ → Type 0
Asks kinds r j = (r.1 ≡ false) × (kind_in kinds r.0 ≡ Now j)

-- it asks a base proposition that is marked
abbrev pub AsksMarked : List Kind → List Bool → ℕ × Bool → Type 0
AsksMarked kinds marks r = (j : ℕ) × Asks kinds r j × IsMarked marks j
