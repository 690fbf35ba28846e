use Rattle.rules.proofs.HeadLemmas.{Heading}
use Rattle.std.proofs.Common.{drop}
use Rattle.rules.proofs.heads.heads_of.Given as goal

abbrev pub invariant-loop-alternative : goal.invariant-loop-alternative
invariant-loop-alternative l = Heading l.nodes l.marks.items l.alternatives (drop l.alternative-index l.alternatives)
