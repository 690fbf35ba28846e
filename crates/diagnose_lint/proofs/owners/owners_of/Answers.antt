use Rattle.std.proofs.Common.{sym, subst, arith}
use Rattle.std.specs.Prelude.{ℕ, ◌+◌, List}
use Rattle.kif.specs.View.{trees_in}
use Rattle.diagnose_explain.specs.Counting.{most_counted}
use Rattle.diagnose_lint.proofs.OwnerLists.{IsOwned, owned_more}
use Rattle.diagnose_lint.proofs.owners.owners_of.Goals as goal

pub loop-place-preserved : goal.loop-place-preserved
loop-place-preserved g c =
    let few = c.if-count-ge-MOST_COUNTED.false in
    subst (λ (os : List ℕ). IsOwned (trees_in c.args.items.now) (c.loop-place.place + 1) os) (sym c.in_ok-push_often.ensures)
    (owned_more c.args.items.now c.loop-place.place c.index-items-place.result c.loop-place.owners.items c.count_alternatives-count.result most_counted
    c.loop-place-test.true c.index-items-place.is c.count_alternatives-count.ensures (omega (arith, few)) c.loop-place.invariant)
