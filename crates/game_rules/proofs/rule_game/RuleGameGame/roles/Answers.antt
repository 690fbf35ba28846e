use Rattle.std.proofs.Common.{sym, ◌∙◌}
use Rattle.game_rules.specs.GroundFacts.{fits}
use Rattle.game_rules.proofs.rule_game.RuleGameGame.roles.Goals as goal

pub returns : goal.returns
returns c = c.roles.ensures ∙ sym (fits c.args.self.now.played).inputs_fit
