use Rattle.unroll_strata.proofs.WholeLemmas.{item_ways}
use Rattle.unroll_strata.proofs.plain_laws.plain_items_say_the_same.Goals as goal

pub returns : goal.returns
returns c = item_ways
