use Rattle.game_rules.proofs.GameRules.{has_game}
use Rattle.game_rules.proofs.rule_laws.rules_have_a_game.Goals as goal

pub returns : goal.returns
returns c = has_game
