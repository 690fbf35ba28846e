-- This crate's own: what `run` promises does not rest on it.
-- Relations in memory.
use Rattle.statement.specs.Clause.{Relation}
use Rattle.rules_relations.specs.declared.relation.Relation as memory

abbrev pub relation_in : memory.Relation → Relation
relation_in r = record { word = r.word.now; arity = r.arity }
