use Rattle.rules_clauses.proofs.NumberLemmas.{seen_number}
use Rattle.rules_clauses.proofs.store.place_of.Goals as goal

pub returns : goal.returns
returns c = seen_number c.args.numbers.now c.args.number c.first_place.result c.first_place.ensures
