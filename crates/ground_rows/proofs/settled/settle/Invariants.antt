use Rattle.std.proofs.Common.{ℕ, ◌≤◌, List, drop, length}
use Rattle.ground_rows.specs.Settled.{Settles}
use Rattle.ground_rows.proofs.settled.settle.Given as goal

-- the parts from this one on are settled
abbrev pub invariant-parts : goal.invariant-parts
invariant-parts l =
    (l.left ≤ l.at) × (l.at ≤ length l.slots) × (l.left ≤ length l.fn.parts)
    × ((words : List (List ℕ)) → Settles words l.fn.terms (drop l.left l.fn.parts) (drop l.at l.slots))

abbrev pub decreases-parts : goal.decreases-parts
decreases-parts l = l.left
