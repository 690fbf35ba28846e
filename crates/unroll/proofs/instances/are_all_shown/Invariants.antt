use Rattle.std.proofs.Common.{map}
use Rattle.kif.specs.View.{trees_in}
use Rattle.rules_relations.specs.Relations.{relation_in}
use Rattle.unroll.specs.Answers.{AddsAnswered}
use Rattle.unroll.proofs.instances.are_all_shown.Given as goal

abbrev pub invariant-loop-circle : goal.invariant-loop-circle
invariant-loop-circle l =
    AddsAnswered (trees_in l.items) (trees_in l.written.items.now) (map relation_in l.fn.own.items) (map relation_in l.own.items)
