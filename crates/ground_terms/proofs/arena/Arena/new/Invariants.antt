use Rattle.rules.specs.RuleSetView.{lists_of_set}
use Rattle.ground_terms.proofs.Lengths.{Begun}
use Rattle.ground_terms.proofs.arena.Arena.new.Given as goal

abbrev pub invariant-loop-symbol : goal.invariant-loop-symbol
invariant-loop-symbol l = Begun (lists_of_set l.rules).words l.symbol l.lengths.items l.terms
