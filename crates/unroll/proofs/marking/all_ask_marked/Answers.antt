use Rattle.std.proofs.Common.{ℕ, Bool, subst}
use Rattle.std.proofs.lemmas.List.{get_or_default}
use Rattle.std.proofs.lemmas.List.Elements.{AllWithin-more}
use Rattle.ground_instances.specs.GroundView.{kinds_of}
use Rattle.unroll.specs.Marks.{AsksMarked}
use Rattle.unroll.proofs.marking.all_ask_marked.Goals as goal

pub loop-literal-preserved : goal.loop-literal-preserved
loop-literal-preserved c =
    let test : ℕ × Bool → Type 0 = AsksMarked (kinds_of c.args.ground.now) c.args.marks.now in
    AllWithin-more test c.args.body.now 0 c.loop-literal.literal-index c.loop-literal.invariant
    (λ d. subst test (get_or_default c.args.body.now c.loop-literal.literal-index c.literal-item.result d c.loop-literal-test.true)
    (subst test c.literal-item.is c.if-not-asks_marked.ensures))
