use Rattle.std.proofs.Common.{◌≡◌, ℕ, ◌<◌, length, get_or}
use Rattle.game_rules.specs.declared.rule_many.RuleBase.{RuleBase}
use Rattle.game_rules.proofs.rule_many.new_bases.Given as goal

-- so many states have room
abbrev pub invariant-loop-i : goal.invariant-loop-i
invariant-loop-i l = record {
  size : length l.states.items ≡ l._i;
  each : (k : ℕ) (d : RuleBase) → k < l._i → length (get_or l.states.items k d).marks.items ≡ length l.game.played.starts.items;
}
