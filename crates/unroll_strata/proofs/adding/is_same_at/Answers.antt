use Rattle.std.proofs.Common.{arith}
use Rattle.unroll_strata.proofs.AddedItems.{same_places}
use Rattle.unroll_strata.proofs.adding.is_same_at.Goals as goal

pub returns : goal.returns
returns g c =
    same_places c.are_same_trees.result c.args.one.now c.args.other.now _ _ _ _ c.args.at c.args.place (omega (arith, c.if-at-one.false))
    (omega (arith, c.if-place-other.false)) c.split_at.ensures.back c.split_at-3.ensures.front c.split_at-2.ensures.back c.split_at-4.ensures.front
    c.are_same_trees.ensures
