use Rattle.std.proofs.Common.{◌≡◌, ℕ, ◌<◌, ◌||◌, length, take, false, get_or, vec_capacity}
use Rattle.game_rules.specs.RulePlay.{marked}
use Rattle.game_rules.specs.Plans.{list_gives}
use Rattle.game_rules.proofs.evaluation.give.Given as goal

-- what the atoms before this one add is marked
abbrev pub invariant-loop-place : goal.invariant-loop-place
invariant-loop-place l = record {
  size : length l.right.items ≡ length l.initial.right.items;
  each : (k : ℕ) → k < length l.initial.right.items
      → get_or l.right.items k false ≡ (get_or l.initial.right.items k false || list_gives (take l.place l.given) (marked l.base) l.joint k);
  capacity : vec_capacity l.right ≡ vec_capacity l.initial.right;
}
