use Rattle.std.proofs.Common.{◌≡◌, ◌<◌, ℕ, false, get_or}
use Rattle.game.specs.Keys.{has_bit}
use Rattle.game_rules.proofs.rule_keys.write_marks_key.Given as goal

-- the bits before this one are written
abbrev pub invariant-loop-p : goal.invariant-loop-p
invariant-loop-p l = (q : ℕ) → q < l.p → has_bit l.key q ≡ get_or l.marks q false
