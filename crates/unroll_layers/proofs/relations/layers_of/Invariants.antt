use Rattle.std.proofs.Common.{ℕ, ◌<◌, [], map}
use Rattle.std.specs.Prelude.{slice_index_or}
use Rattle.meaning.specs.Names.{names_of}
use Rattle.rules_relations.specs.Relations.{relation_in}
use Rattle.unroll_layers.specs.ByNumber.{HasLayer}
use Rattle.unroll_layers.proofs.relations.layers_of.Given as goal

abbrev pub invariant-loop-place : goal.invariant-loop-place
invariant-loop-place l = (i : ℕ) → i < l.place → HasLayer (map relation_in l.own) (slice_index_or (names_of l.names) i []) l.set
