use Rattle.position.proofs.SourceLemmas.{AreGathered}
use Rattle.position.proofs.net_sources.word_from.Given as goal

abbrev pub invariant-loop-k : goal.invariant-loop-k
invariant-loop-k l = AreGathered l.places l.word l.k l.lanes
