use Rattle.rules.proofs.HeadLemmas.{Passing}
use Rattle.std.proofs.Common.{drop}
use Rattle.rules.proofs.heads.passing_heads_of.Given as goal

abbrev pub invariant-loop-index : goal.invariant-loop-index
invariant-loop-index l = Passing l.nodes l.marks.items l.links l.tests (drop l.index l.links) (drop l.index l.tests)
