use Rattle.std.proofs.Common.{◌≡◌, drop}
use Rattle.std.specs.List.{list_all}
use Rattle.kif.specs.View.{trees_in}
use Rattle.unroll_layers.specs.Kinds.{is_single}
use Rattle.unroll_layers.proofs.kinds.are_single.Given as goal

abbrev pub invariant-loop-part : goal.invariant-loop-part
invariant-loop-part l =
    list_all is_single (trees_in l.body) ≡ list_all is_single (trees_in (drop l.part-index l.body))
