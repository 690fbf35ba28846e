use Rattle.std.proofs.Common.{◌≡◌, map, take}
use Rattle.statement.specs.Clause as said
use Rattle.statement.specs.Dependence.{is_among}
use Rattle.rules_relations.specs.Relations.{relation_in}
use Rattle.unroll_layers.proofs.relations.set_of.Given as goal

abbrev pub invariant-loop-relation : goal.invariant-loop-relation
invariant-loop-relation l = (p : said.Relation) → is_among p l.set ≡ is_among p (map relation_in (take l.relation-index l.relations))
