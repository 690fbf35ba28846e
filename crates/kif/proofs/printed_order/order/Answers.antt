use Rattle.std.proofs.Common.{sym, ◌∙◌, [], ◌≡◌, refl}
use Rattle.std.specs.Ordering.{ordering_then}
use Rattle.std.specs.declared.cmp.Ordering.{Ordering}
use Rattle.std.specs.declared.cmp.Ordering.TheVariants.{Less, Equal, Greater}
use Rattle.kif.specs.View.{tree_of}
use Rattle.kif.proofs.MarkLemmas.{marked_cmp-ended, marked_cmp-printed}
use Rattle.kif.proofs.printed_order.order.Goals as goal

then_equal : (o : Ordering) → ordering_then o Equal ≡ o
then_equal Less = refl
then_equal Equal = refl
then_equal Greater = refl

pub returns : goal.returns
returns g c =
    let x = tree_of c.args.x.now in
    let y = tree_of c.args.y.now in
    let marked = sym (then_equal c.order_of_trees.result) ∙ sym (c.order_of_trees.ensures.law [] []) ∙ marked_cmp-ended x y in
    record { printed = λ h k. marked ∙ marked_cmp-printed x y h k; marked = marked }
