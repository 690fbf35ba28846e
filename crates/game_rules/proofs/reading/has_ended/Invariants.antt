use Rattle.std.proofs.Common.{◌≡◌, false, get_or, take}
use Rattle.game_rules.specs.Standings.{ends_among}
use Rattle.game_rules.proofs.reading.has_ended.Given as goal

-- whether an atom before this one ends the game
abbrev pub invariant-loop-place : goal.invariant-loop-place
invariant-loop-place l = l.ended ≡ ends_among (take l.place l.list) (λ a. get_or l.right.items a false)
