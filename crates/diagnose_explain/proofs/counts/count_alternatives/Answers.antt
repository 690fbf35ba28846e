use Rattle.kif.specs.View.{tree_of}
use Rattle.diagnose_explain.specs.Counting.{most_counted}
use Rattle.diagnose_explain.proofs.CountedWays.{counted}
use Rattle.diagnose_explain.proofs.counts.count_alternatives.Goals as goal

pub returns : goal.returns
returns g c = counted most_counted (tree_of c.args.item.now) _ _ c.split_item.ensures.body c.count_of_all.ensures
