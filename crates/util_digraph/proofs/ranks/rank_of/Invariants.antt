use Rattle.util_digraph.specs.SuccessorsView.{left_of}
use Rattle.util_digraph.proofs.SuccessorLemmas.{Raised}
use Rattle.util_digraph.proofs.ranks.rank_of.Given as goal

abbrev pub invariant-loop-next : goal.invariant-loop-next
invariant-loop-next l = Raised l.graph.arrows.items l.ranks l.floor l.node l.rank (left_of l.next-iterator)
