use Rattle.propnet.specs.Nets.{gates_of}
use Rattle.propnet_tape.specs.Sources.{AreSourcesOf}
use Rattle.propnet_tape.proofs.sourcing.sources_of.Given as goal

abbrev pub invariant-loop-n : goal.invariant-loop-n
invariant-loop-n l = AreSourcesOf (gates_of l.net) l.marks l.n l.sources.words.items l.sources.literals.items
