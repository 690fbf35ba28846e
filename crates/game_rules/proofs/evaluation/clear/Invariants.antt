use Rattle.std.proofs.Common.{◌≡◌, ℕ, ◌<◌, length, false, get_or, vec_capacity}
use Rattle.game_rules.proofs.evaluation.clear.Given as goal

-- each mark before this one is taken away
abbrev pub invariant-loop-place : goal.invariant-loop-place
invariant-loop-place l = record {
  size : length l.marks.items ≡ length l.initial.marks.items;
  each : (k : ℕ) → k < l.place → get_or l.marks.items k false ≡ false;
  capacity : vec_capacity l.marks ≡ vec_capacity l.initial.marks;
}
