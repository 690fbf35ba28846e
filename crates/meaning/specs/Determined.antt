-- This crate's own: what `run` promises does not rest on it.
-- What the listing is: one condition on its instances and on the numbers of its atoms together.
use Rattle.std.specs.Prelude.{◌≡◌, ◌↔◌, List, [], ◌++◌}
use Rattle.statement.specs.Clause.{Atom, Alternative}
use Rattle.statement.specs.Dependence.{IsAmong}
use Rattle.statement.specs.Printed.{AreInOrder}
use Rattle.statement.specs.Listing.{Instance, Listing, heads, with_atoms, context_atoms, fixed_part, other_part}
use Rattle.meaning.specs.Listed.{IsKeptInstance}
use Rattle.meaning.specs.Numbers.{StandsBefore}

-- the atoms of a list of instances by first appearance: in its heads of fixed relations, then in `true` of the base
-- propositions and `does` of the inputs of which these heads tell, then in its other heads
abbrev pub by_appearance : List Alternative → List Instance → List Atom
by_appearance rules is =
    let fixed = with_atoms [] (heads (fixed_part rules is)) in with_atoms fixed (context_atoms fixed ++ heads (other_part rules is))

-- exactly the kept instances, in the order of the keys that the numbers of the atoms give them, and the atoms by first
-- appearance in these instances
pub record IsListing (rules : List Alternative) (g : Listing) : Type 0 where
  pub members : (i : Instance) → IsAmong i g.kept ↔ IsKeptInstance rules i
  pub order : AreInOrder (StandsBefore rules g.atoms) g.kept
  pub numbers : g.atoms ≡ by_appearance rules g.kept
