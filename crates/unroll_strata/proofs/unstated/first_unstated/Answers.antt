use Rattle.kif.specs.View.{tree_of, trees_in}
use Rattle.unroll_strata.specs.Missing.{AsksUnstated}
use Rattle.unroll_strata.proofs.FirstItem.{first_of_map}
use Rattle.unroll_strata.proofs.unstated.first_unstated.Goals as goal

pub returns : goal.returns
returns c =
    let stated = rw c.range_of-input.ensures.stated at (rw c.range_of-base.ensures.stated at c.first_asking.ensures) in
    let told = rw c.range_of-input.ensures.relation at (rw c.range_of-base.ensures.relation at stated) in
    first_of_map tree_of (AsksUnstated (trees_in c.args.items.now)) c.args.items.now c.first_asking.result told
