use Rattle.std.proofs.Common.{ap, ◌∙◌}
use Rattle.statement.specs.Items.{alternatives}
use Rattle.kif.specs.View.{trees_in}
use Rattle.unroll_strata.proofs.WayLemmas.{all_made}
use Rattle.unroll_strata.proofs.SameLemmas.{items_same}
use Rattle.unroll_strata.proofs.read_items.items_by_reading.Goals as goal

pub returns-clause-same : goal.returns-clause-same
returns-clause-same c =
    ap alternatives (all_made _ c.args.items.now c.loop-item.item-index _ _ c.loop-item-test.false c.loop-item.invariant)
    ∙ items_same _ (trees_in c.args.items.now)
