use Rattle.game_rules.proofs.GameRules.{ended_by_rules}
use Rattle.game_rules.proofs.rule_laws.the_rules_end_the_game.Goals as goal

pub returns : goal.returns
returns c = ended_by_rules
