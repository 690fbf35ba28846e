-- This crate's own: what `run` promises does not rest on it.
-- What stands in memory while the instances are listed.
use Rattle.std.specs.Prelude.{ℕ, zero, Bool, false, not, cond, ◌||◌, ◌≡◌, ◌<◌, nat_lt, List, [], ◌∷◌, ◌++◌, length, map, Option, Some, None, ⊤}
use Rattle.statement.specs.Tree.{Tree, text}
use Rattle.statement.specs.Clause.{Atom, Alternative, Relation}
use Rattle.statement.specs.Dependence.{is_fixed}
use Rattle.statement.specs.declared.excess.Excess.{Excess}
use Rattle.ground_rows.specs.declared.most.Most.{Most}
use Rattle.statement.specs.declared.excess.Excess.TheVariants.{Instances, Text}
use Rattle.statement.specs.declared.ground_fault.GroundFault.{GroundFault}
use Rattle.statement.specs.declared.ground_fault.GroundFault.TheVariants.{TooMany, NoMemory}
use Rattle.ground_terms.specs.Arena.{Held}
use Rattle.ground_terms.specs.Atoms.{AreAtoms, WordTerms, HasGrown}
use Rattle.ground_rows.specs.Founds.{AreFound, AreFoundShort, told_by}
use Rattle.statement.specs.Kept.{Kept}
use Rattle.ground_terms.specs.Keys.{trees}
use Rattle.statement.specs.Limits.{or_excess, where_true, has_long_text, first_excess}
use Rattle.statement.specs.Most.{Limits}
use Rattle.statement.specs.Listing.{Instance, Listing, heads, kept_of_relation, list_relation, list_relations, listing}

-- terms grew, and behind what was found stand further instances where these are the atoms, and heads that are too long are not told apart
pub record Adds (rules : List Alternative) (atoms : List Atom) (words : List (List ℕ)) (old new : Held) (before after : List Kept) (instances : List Instance) : Type 0
  where
    pub grown : HasGrown words old new
    pub more : List Kept
    pub same : after ≡ before ++ more
    pub are : AreFoundShort rules atoms (trees words new.keys) more instances

-- terms, atoms and instances by numbers are what is listed; of the instances that is read which is read of the whole listing
pub record IsListed (rules : List Alternative) (words : List (List ℕ)) (held : Held) (atoms : List ℕ) (found : List Kept) (g : Listing) : Type 0 where
  pub terms : WordTerms words held
  pub atoms_are : AreAtoms (trees words held.keys) atoms g.atoms
  pub found_are : AreFound rules (listing rules).atoms (trees words held.keys) found g.kept

abbrev pub limits_of : Most → Limits
limits_of m = record { instances = m.instances; text = m.text; base = m.base; inputs = m.inputs }

-- the text of some tree is longer
abbrev pub some_long : ℕ → List Tree → Bool
some_long n [] = false
some_long n (t ∷ ts) = nat_lt n (length (text t)) || some_long n ts

-- the limit that a relation passes in its turn
abbrev pub excess_at : Limits → List Alternative → Listing → Relation → Option Excess
excess_at most rules g p =
    or_excess (where_true (nat_lt most.instances (length (list_relation rules g p).kept)) Instances)
    (where_true (has_long_text most.text (heads (kept_of_relation rules g.atoms p zero rules))) Text)

-- a limit is named only where it is the one passed
abbrev pub IsFaultOf : Option Excess → GroundFault → Type 0
IsFaultOf o (TooMany e) = o ≡ Some e
IsFaultOf o NoMemory = ⊤

-- the relations of one kind: fixed ones, or the others
abbrev pub is_of_kind : List Alternative → Bool → Relation → Bool
is_of_kind rules fixed p = cond fixed (is_fixed rules p) (not (is_fixed rules p))

-- what stands in memory
pub record Memory : Type 0 where
  pub held : Held
  pub atoms : List ℕ
  pub found : List Kept

abbrev pub Shows : List Alternative → List (List ℕ) → Memory → Listing → Type 0
Shows rules words m g = IsListed rules words m.held m.atoms m.found g

-- some listing is what stands in memory
abbrev pub ListsSome : List Alternative → List (List ℕ) → Memory → Type 0
ListsSome rules words m = (g : Listing) × Shows rules words m g

-- what instances read of some atoms they read of all that are listed
abbrev pub ReadAlike : List Alternative → List Atom → List Instance → Type 0
ReadAlike rules atoms is = map (told_by rules atoms) is ≡ map (told_by rules (listing rules).atoms) is

-- what the instances of relations, listed one after the other, read of the atoms found by then they read of all
abbrev pub ReadAsWhole : List Alternative → Listing → List Relation → Type 0
ReadAsWhole rules g [] = ⊤
ReadAsWhole rules g (p ∷ ps) = ReadAlike rules g.atoms (kept_of_relation rules g.atoms p zero rules) × ReadAsWhole rules (list_relation rules g p) ps

-- some listing is what stands in memory, behind which these relations may be listed
abbrev pub ListsSomeBefore : List Alternative → List (List ℕ) → Memory → List Relation → Type 0
ListsSomeBefore rules words m ps = (g : Listing) × Shows rules words m g × ReadAsWhole rules g ps

-- what was listed before is now listed with some relations, which pass no limit
abbrev pub ListsMore : Limits → List Alternative → List (List ℕ) → Memory → Memory → List Relation → Type 0
ListsMore most rules words old new ps =
    (g : Listing) → Shows rules words old g → ReadAsWhole rules g ps
    → Shows rules words new (list_relations rules g ps) × (first_excess most rules g ps ≡ None)

-- the fault is that of some relations behind what was listed before
abbrev pub IsFaultBehind : Limits → List Alternative → List (List ℕ) → Memory → List Relation → GroundFault → Type 0
IsFaultBehind most rules words old ps e =
    (g : Listing) → Shows rules words old g → ReadAsWhole rules g ps → IsFaultOf (first_excess most rules g ps) e

-- n instances are more than a limit allows, or memory ran out
abbrev pub IsOver : ℕ → ℕ → GroundFault → Type 0
IsOver most n (TooMany e) = (most < n) × (e ≡ Instances)
IsOver most n NoMemory = ⊤
