use Rattle.std.proofs.Common.{◌≡◌, ℕ, ◌<◌, length, false, get_or}
use Rattle.game_rules.proofs.rule_pos.mark_start.Given as goal

-- each base proposition before this one is marked
abbrev pub invariant-loop-proposition : goal.invariant-loop-proposition
invariant-loop-proposition l = record {
  size : length l.base.items ≡ length l.ground.starts.items;
  each : (k : ℕ) → k < l.proposition → get_or l.base.items k false ≡ get_or l.ground.starts.items k false;
}
