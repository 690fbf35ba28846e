use Rattle.std.proofs.Common.{◌≡◌, length, drop, vec_capacity}
use Rattle.ground_instances.specs.GroundView.{instances_of}
use Rattle.game_rules.specs.Marks.{with_heads}
use Rattle.game_rules.proofs.evaluation.go_through.Given as goal

-- the rest of the instances decides
abbrev pub invariant-loop-place : goal.invariant-loop-place
invariant-loop-place l = record {
  left : with_heads l.fn.right.items (instances_of l.ground) ≡ with_heads l.right.items (drop l.place (instances_of l.ground));
  size : length l.right.items ≡ length l.fn.right.items;
  capacity : vec_capacity l.right ≡ vec_capacity l.fn.right;
}
