use Rattle.rules_clauses.proofs.ItemLemmas.{reads_item}
use Rattle.rules_clauses.proofs.items.read_item.Goals as goal

pub returns : goal.returns
returns g c =
    reads_item _ _ _ _ _ _ _ c.split_item.ensures.head c.split_item.ensures.body c.count_variables-from.ensures c.count_variables-to.ensures
    c.in_ok-head.ensures c.in_ok-bodies.ensures
