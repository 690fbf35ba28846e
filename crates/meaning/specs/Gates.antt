-- This crate's own: what `run` promises does not rest on it.
-- What an and gate reads of an instance: the literals that may be right in one state and wrong in
-- another.
use Rattle.std.specs.Prelude.{ℕ, zero, suc, Bool, cond, List, [], ◌∷◌}
use Rattle.statement.specs.Tree.{no_trees}
use Rattle.statement.specs.Clause.{Atom, Literal, positive, negative, Alternative}
use Rattle.statement.specs.Dependence.{IsAmong}
use Rattle.statement.specs.Meaning.{StateOfTerms, Joint, IsRight, Holds}
use Rattle.statement.specs.Listing.{Instance, listing}
use Rattle.statement.specs.Kept.{gate}

-- the atom with a number
abbrev pub atom_at : List Atom → ℕ → Atom
atom_at [] n = record { word = []; terms = no_trees }
atom_at (x ∷ xs) zero = x
atom_at (x ∷ xs) (suc n) = atom_at xs n

-- the literal that is read
abbrev pub literal_at : List Atom → ℕ × Bool → Literal
literal_at atoms r = cond r.1 (negative (atom_at atoms r.0)) (positive (atom_at atoms r.0))

-- all that the gate reads is right
abbrev pub IsGateRight : List Alternative → StateOfTerms → Joint → Instance → Type 0
IsGateRight rules S J i =
    (r : ℕ × Bool) → IsAmong r (gate rules i) → IsRight S J (Holds rules S J) (literal_at (listing rules).atoms r)

-- the whole body is right
abbrev pub IsBodyRight : List Alternative → StateOfTerms → Joint → Instance → Type 0
IsBodyRight rules S J i = (l : Literal) → IsAmong l i.body → IsRight S J (Holds rules S J) l
