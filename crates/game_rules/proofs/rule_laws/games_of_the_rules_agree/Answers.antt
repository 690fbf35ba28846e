use Rattle.game_rules.proofs.OneGame.{one_game}
use Rattle.game_rules.proofs.rule_laws.games_of_the_rules_agree.Goals as goal

pub returns : goal.returns
returns c = one_game
