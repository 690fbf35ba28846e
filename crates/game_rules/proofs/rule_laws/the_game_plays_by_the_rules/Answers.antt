use Rattle.game_rules.proofs.GameRules.{game_of_ground}
use Rattle.game_rules.proofs.rule_laws.the_game_plays_by_the_rules.Goals as goal

pub returns : goal.returns
returns c = game_of_ground
