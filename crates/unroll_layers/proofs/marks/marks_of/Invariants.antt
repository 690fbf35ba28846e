use Rattle.std.proofs.Common.{◌≡◌, map, take}
use Rattle.rules.specs.RuleSetView.{rules_in}
use Rattle.unroll_layers.specs.ByNumber.{heads_one}
use Rattle.unroll_layers.proofs.marks.marks_of.Given as goal

abbrev pub invariant-loop-place : goal.invariant-loop-place
invariant-loop-place l = l.marks.items ≡ map (heads_one l.relations) (take l.place (rules_in l.rules))
