use Rattle.std.proofs.Common.{◌≡◌, ℕ, ◌<◌, length, get_or}
use Rattle.ground_instances.specs.Grounds.{texts_at}
use Rattle.ground_instances.specs.GroundView.{inputs_of}
use Rattle.game_rules.specs.declared.rule_pos.MoveMarks.{MoveMarks}
use Rattle.game_rules.proofs.rule_pos.new_marks.Given as goal

-- there are marks for each role before this one
abbrev pub invariant-loop-role : goal.invariant-loop-role
invariant-loop-role l = record {
  size : length l.marks.items ≡ l.role;
  each : (r : ℕ) (d : MoveMarks) → r < l.role → length (get_or l.marks.items r d).marks.items ≡ length (texts_at (inputs_of l.ground) r);
}
