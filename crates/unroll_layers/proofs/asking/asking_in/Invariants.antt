use Rattle.rules.specs.RuleSetView.{rules_in}
use Rattle.ground_instances.specs.GroundView.{instances_of}
use Rattle.unroll_layers.specs.Owners.{AllAsk}
use Rattle.unroll_layers.proofs.asking.asking_in.Given as goal

abbrev pub invariant-loop-place : goal.invariant-loop-place
invariant-loop-place l = AllAsk (rules_in l.rules) (instances_of l.ground) l.set
