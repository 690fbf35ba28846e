use Rattle.rules.specs.RuleSetView.{rules_in}
use Rattle.ground_instances.specs.GroundView.{instances_of}
use Rattle.unroll_layers.specs.Carried.{MarkCarried}
use Rattle.unroll_layers.proofs.carrying.carried_in.Given as goal

abbrev pub invariant-loop-place : goal.invariant-loop-place
invariant-loop-place l = MarkCarried (rules_in l.rules) l.firsts (instances_of l.ground) l.owners l.marks.items
