use Rattle.std.proofs.Common.{sym, ◌∙◌}
use Rattle.game_rules.specs.GroundFacts.{fits}
use Rattle.position.proofs.net_game.NetGameGame.roles.Goals as goal

pub returns : goal.returns
returns c = c.roles.ensures ∙ sym (fits c.args.self.now.played).inputs_fit
