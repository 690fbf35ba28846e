use Rattle.game_rules.proofs.ByNumbers.{numbers_exact}
use Rattle.game_rules.proofs.rule_laws.numbers_find_what_holds.Goals as goal

pub returns : goal.returns
returns c = numbers_exact
