use Rattle.std.proofs.Common.{◌≡◌, ◌++◌, drop}
use Rattle.kif.specs.View.{trees_in}
use Rattle.unroll_strata.proofs.parts.add_copies.Given as goal

abbrev pub invariant-loop-part : goal.invariant-loop-part
invariant-loop-part l =
    trees_in l.made.items ++ trees_in (drop l.part-index l.parts) ≡ trees_in l.initial.made.items ++ trees_in l.parts
