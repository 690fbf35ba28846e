use Rattle.std.proofs.Common.{rules, ◌≡◌, true}
use Rattle.unroll.proofs.Claims.{true_on}
use Rattle.unroll.proofs.instances.are_all_shown.Goals as goal

pub loop-circle-preserved : goal.loop-circle-preserved
loop-circle-preserved c =
    let found_so : c.in_ok-add_shown.field-0 ≡ true = search (rules, c.if-not-branch.false) in
    λ answered. true_on _ _ c.in_ok-add_shown.ensures found_so (c.loop-circle.invariant answered)
