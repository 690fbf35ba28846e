use Rattle.rules.specs.RuleSets.{texts_of}
use Rattle.rules.proofs.TextLemmas.{AreWritten}
use Rattle.rules.proofs.role_texts.role_texts.Given as goal

abbrev pub invariant-loop-place : goal.invariant-loop-place
invariant-loop-place g l = AreWritten (texts_of l.texts.items) l.items l.places l.place-index
