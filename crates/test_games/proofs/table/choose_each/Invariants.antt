use Rattle.std.proofs.Common.{◌≡◌, ℕ, ◌<◌, ◌≤◌, [], ◌∷◌, length, get_or}
use Rattle.game.specs.Joints.{joint_at}
use Rattle.test_games.specs.Table.{table_rules}
use Rattle.test_games.proofs.table.choose_each.Given as goal

-- the cells before this one are written
abbrev pub invariant-loop-k : goal.invariant-loop-k
invariant-loop-k l = record {
  within : (i : ℕ) → i < length l.initial.cells → get_or l.cells i 0 ≤ 8;
  after : (i : ℕ) → i < l.k → get_or l.cells i 0 ∷ [] ≡ (table_rules [] []).after [] (joint_at l.joints i);
}
