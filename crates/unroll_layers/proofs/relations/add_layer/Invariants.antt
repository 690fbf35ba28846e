use Rattle.std.proofs.Common.{ℕ, ◌<◌, ◌≡◌, true, map}
use Rattle.statement.specs.Dependence.{is_among}
use Rattle.rules_relations.specs.Relations.{relation_in}
use Rattle.rules.specs.RuleSets.{texts_of}
use Rattle.unroll_layers.specs.ByNumber.{IsPartOf, layer_at}
use Rattle.unroll_layers.proofs.relations.add_layer.Given as goal

abbrev pub invariant-loop-place : goal.invariant-loop-place
invariant-loop-place l = record {
  grown : IsPartOf l.fn.set l.set;
  added : (i : ℕ) → i < l.place → is_among (layer_at (map relation_in l.own) (texts_of l.names) i) l.set ≡ true;
}
