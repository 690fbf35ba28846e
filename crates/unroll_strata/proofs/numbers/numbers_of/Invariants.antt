use Rattle.std.proofs.Common.{◌≡◌, ◌++◌, drop, map}
use Rattle.rules_relations.specs.Relations.{relation_in}
use Rattle.unroll_strata.specs.Numbering.{numbers_in}
use Rattle.unroll_strata.proofs.numbers.numbers_of.Given as goal

abbrev pub invariant-loop-relation : goal.invariant-loop-relation
invariant-loop-relation l =
    l.found.items ++ numbers_in l.numbers (map relation_in (drop l.relation-index l.relations)) ≡ numbers_in l.numbers (map relation_in l.relations)
