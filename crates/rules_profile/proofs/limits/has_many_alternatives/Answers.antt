use Rattle.kif.specs.View.{tree_of}
use Rattle.rules_profile.proofs.Counts.{counted}
use Rattle.rules_profile.proofs.limits.has_many_alternatives.Goals as goal

pub returns : goal.returns
returns g c = counted (tree_of c.args.e.now) _ _ c.split_item.ensures.body c.count_readings_of_all.ensures
