use Rattle.std.proofs.Common.{ap}
use Rattle.game_rules.specs.RuleState.{named_rules_of}
use Rattle.game_rules.proofs.rule_game.RuleGameGroundGame.over.Goals as goal

pub returns-clause-plays : goal.returns-clause-plays
returns-clause-plays c = ap named_rules_of c.in_ok-game.ensures
