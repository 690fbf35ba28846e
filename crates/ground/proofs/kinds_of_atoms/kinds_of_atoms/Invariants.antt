use Rattle.std.proofs.Common.{drop}
use Rattle.rules.specs.RuleSetView.{lists_of_set, rules_in}
use Rattle.ground_terms.specs.Keys.{trees}
use Rattle.ground.proofs.KindSteps.{Kinding}
use Rattle.ground.proofs.kinds_of_atoms.kinds_of_atoms.Given as goal

abbrev pub invariant-loop-place : goal.invariant-loop-place
invariant-loop-place l =
    Kinding (rules_in l.fn.rules) (trees (lists_of_set l.fn.rules).words l.fn.arena.keys) l.fn.fixed_atoms l.fn.atoms l.kinds.items l.place
    (drop l.place l.fn.atoms)
