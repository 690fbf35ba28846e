use Rattle.std.proofs.Common.{map, take}
use Rattle.rules_relations.specs.Relations.{relation_in}
use Rattle.unroll_layers.specs.ByNumber.{IsPartOf}
use Rattle.unroll_layers.proofs.asking.are_all_in.Given as goal

abbrev pub invariant-loop-relation : goal.invariant-loop-relation
invariant-loop-relation l = IsPartOf (map relation_in (take l.relation-index l.relations)) l.set
