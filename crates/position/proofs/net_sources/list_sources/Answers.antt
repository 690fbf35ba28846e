use Rattle.position.proofs.SourceLemmas.{all_fresh}
use Rattle.position.proofs.net_sources.list_sources.Goals as goal

pub mark_lanes-requires-clause-fresh : goal.mark_lanes-requires-clause-fresh
mark_lanes-requires-clause-fresh c = λ l k. all_fresh 64 l k
