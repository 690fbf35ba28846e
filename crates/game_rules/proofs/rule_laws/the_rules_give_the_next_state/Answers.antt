use Rattle.game_rules.proofs.GameRules.{after_by_rules}
use Rattle.game_rules.proofs.rule_laws.the_rules_give_the_next_state.Goals as goal

pub returns : goal.returns
returns c = after_by_rules
