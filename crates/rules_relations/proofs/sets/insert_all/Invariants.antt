use Rattle.std.proofs.Common.{◌≡◌, drop}
use Rattle.std.specs.Prelude.{map, ◌||◌}
use Rattle.statement.specs.Clause.{Relation}
use Rattle.statement.specs.Dependence.{is_among}
use Rattle.rules_relations.specs.Relations.{relation_in}
use Rattle.rules_relations.proofs.sets.insert_all.Given as goal

abbrev pub invariant-loop-relation : goal.invariant-loop-relation
invariant-loop-relation l =
    (p : Relation) → (is_among p l.set || is_among p (map relation_in (drop l.relation-index l.relations)))
    ≡ (is_among p l.initial.set || is_among p (map relation_in l.relations))
