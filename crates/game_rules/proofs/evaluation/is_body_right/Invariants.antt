use Rattle.std.proofs.Common.{◌≡◌, false, drop, get_or}
use Rattle.game_rules.specs.RulePlay.{all_right}
use Rattle.game_rules.proofs.evaluation.is_body_right.Given as goal

-- the rest of the body decides
abbrev pub invariant-loop-place : goal.invariant-loop-place
invariant-loop-place l = all_right (λ n. get_or l.right n false) l.body ≡ all_right (λ n. get_or l.right n false) (drop l.place l.body)
