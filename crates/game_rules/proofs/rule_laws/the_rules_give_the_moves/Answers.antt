use Rattle.game_rules.proofs.GameRules.{legal_by_rules}
use Rattle.game_rules.proofs.rule_laws.the_rules_give_the_moves.Goals as goal

pub returns : goal.returns
returns c = legal_by_rules
