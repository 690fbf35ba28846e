use Rattle.std.proofs.Common.{◌≡◌, ◌≤◌, length, take}
use Rattle.kif.specs.View.{trees_in}
use Rattle.unroll_strata.specs.Adding.{kept_items}
use Rattle.unroll_strata.proofs.adding.kept_before.Given as goal

abbrev pub invariant-loop-place : goal.invariant-loop-place
invariant-loop-place g l =
    (l.next ≤ length l.out) × (kept_items l.own (trees_in (take l.next l.out)) ≡ kept_items l.own (trees_in (take l.place l.items)))
