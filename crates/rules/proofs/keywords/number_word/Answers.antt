use Rattle.rules.proofs.NamingLemmas.{numbers_word}
use Rattle.rules.proofs.keywords.number_word.Goals as goal

pub returns : goal.returns
returns c = numbers_word _ _ _ _ _ c.name.ensures c.in_ok-number.ensures.kept c.in_ok-number.ensures.found
