use Rattle.game_rules.proofs.StuckRules.{stuck_by_rules}
use Rattle.game_rules.proofs.rule_laws.the_rules_leave_the_game_stuck.Goals as goal

pub returns : goal.returns
returns c = stuck_by_rules
