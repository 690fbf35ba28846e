use Rattle.rules.proofs.ArrowLemmas.{Arrowing}
use Rattle.std.proofs.Common.{drop}
use Rattle.unroll_strata.proofs.graph.add_arrows.Given as goal

abbrev pub invariant-loop-number : goal.invariant-loop-number
invariant-loop-number l = Arrowing l.fn.graph l.graph l.head l.body (drop l.number-index l.body)
