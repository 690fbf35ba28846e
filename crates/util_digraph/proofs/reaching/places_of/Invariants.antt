use Rattle.util_digraph.proofs.Turning.{Placing}
use Rattle.util_digraph.proofs.reaching.places_of.Given as goal

abbrev pub invariant-loop-place : goal.invariant-loop-place
invariant-loop-place l = Placing l.marks l.place l.places.items
