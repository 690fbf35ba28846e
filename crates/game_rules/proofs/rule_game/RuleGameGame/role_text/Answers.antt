use Rattle.std.proofs.Common.{arith}
use Rattle.game_rules.specs.GroundFacts.{fits}
use Rattle.game_rules.proofs.rule_game.RuleGameGame.role_text.Goals as goal

pub role_text-requires : goal.role_text-requires
role_text-requires c = let fit = (fits c.args.self.now.played).inputs_fit in let below = c.requires in omega arith
