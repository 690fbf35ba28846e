use Rattle.std.proofs.Common.{map}
use Rattle.kif.specs.View.{trees_in}
use Rattle.rules_profile.proofs.Facts.{if_ok}
use Rattle.rules_relations.specs.Relations.{relation_in}
use Rattle.unroll_layers.proofs.Stacked.{says_stacked}
use Rattle.unroll_layers.proofs.stacking.is_stacked.Goals as goal

pub returns-clause-says : goal.returns-clause-says
returns-clause-says c =
    if_ok c.are_passed.result _ _ (λ b h. says_stacked (map relation_in c.args.own.now) c.args.names.now (trees_in c.args.found.now)
    (trees_in c.args.written.now) b h) c.are_passed.ensures
