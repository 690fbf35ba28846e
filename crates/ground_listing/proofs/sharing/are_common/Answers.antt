use Rattle.std.proofs.Common.{[], ap, ◌∙◌, arith, get_or}
use Rattle.rules.specs.RuleSetView.{lists_of_set, rules_in}
use Rattle.ground_terms.specs.Vectors.{items_of}
use Rattle.ground_rows.proofs.Facts.{placed_at}
use Rattle.ground_listing.proofs.SharedBodies.{common_more}
use Rattle.ground_listing.proofs.sharing.are_common.Goals as goal

pub loop-index-preserved : goal.loop-index-preserved
loop-index-preserved c = λ from places e.
    let d = lists_of_set c.args.set.now in
    let ns = c.args.numbers.now in
    common_more (rules_in c.args.set.now) d from places ns c.loop-index.index (c.loop-index.invariant from places e)
    (c.is_common.ensures c.if-not-is_common.false from places
    (c.parts_at.ensures ∙ ap (λ vs. get_or (items_of vs) c.loop-index.index []) c.deref.ensures.value
    ∙ placed_at d from places ns (items_of c.args.plan.now.body.items) c.loop-index.index e c.loop-index-test.true))

pub returns : goal.returns
returns c = λ yes from places e i less.
    let end = c.loop-index-test.false in c.loop-index.invariant from places e i (omega (arith, less, end))
