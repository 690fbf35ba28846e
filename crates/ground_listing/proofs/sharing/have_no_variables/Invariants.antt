use Rattle.std.proofs.Common.{ℕ, List, drop}
use Rattle.ground_rows.specs.Pairs.{HaveSameValues}
use Rattle.ground_listing.proofs.sharing.have_no_variables.Given as goal

abbrev pub invariant-loop-part : goal.invariant-loop-part
invariant-loop-part l = (xs ys : List ℕ) → HaveSameValues xs ys (drop l.part-index l.parts) → HaveSameValues xs ys l.parts
