use Rattle.game_rules.proofs.GameRules.{start_by_rules}
use Rattle.game_rules.proofs.rule_laws.the_rules_start_the_game.Goals as goal

pub returns : goal.returns
returns c = start_by_rules
