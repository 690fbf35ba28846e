use Rattle.util_digraph.proofs.GroupLemmas.{NumberedTo}
use Rattle.util_digraph.proofs.components.number_from.Given as goal

abbrev pub invariant-loop-place : goal.invariant-loop-place
invariant-loop-place l = NumberedTo l.initial.numbers.items l.numbers.items l.nodes l.from l.place l.number
