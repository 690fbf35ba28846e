use Rattle.game_rules.proofs.GameRules.{goals_by_rules}
use Rattle.game_rules.proofs.rule_laws.the_rules_give_the_goals.Goals as goal

pub returns : goal.returns
returns c = goals_by_rules
