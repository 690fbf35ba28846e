use Rattle.std.proofs.Common.{◌≡◌, ℕ, ◌<◌, length, take, false, get_or, vec_capacity}
use Rattle.game_rules.specs.Standings.{names_among}
use Rattle.game_rules.proofs.reading.mark_named.Given as goal

-- what the atoms before this one name is marked
abbrev pub invariant-loop-place : goal.invariant-loop-place
invariant-loop-place l = record {
  size : length l.marks.items ≡ length l.initial.marks.items;
  each : (k : ℕ) → k < length l.initial.marks.items → get_or l.marks.items k false ≡ names_among (take l.place l.list)
      (λ a. get_or l.right.items a false) l.by k;
  capacity : vec_capacity l.marks ≡ vec_capacity l.initial.marks;
}
