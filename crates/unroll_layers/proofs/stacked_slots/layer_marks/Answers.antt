use Rattle.std.proofs.Common.{ℕ, ◌≤◌, ◌≡◌, true, List, map}
use Rattle.statement.specs.Clause.{Relation}
use Rattle.statement.specs.Dependence.{is_among}
use Rattle.rules_relations.specs.Relations.{relation_in}
use Rattle.rules.specs.RuleSetView.{rules_in}
use Rattle.meaning.specs.Layers.{layer_of}
use Rattle.meaning.specs.Names.{names_of, word_in}
use Rattle.unroll_layers.proofs.Marked.{layers_marked, some_is}
use Rattle.unroll_layers.proofs.stacked_slots.layer_marks.Goals as goal

pub returns : goal.returns
returns c =
    let own = map relation_in c.args.own.now in
    let word = word_in own (names_of c.args.names.now) in
    let all = some_is c.in_ok-set.field-0 c.in-Some.set (λ (set : List Relation). (k : ℕ) → 1 ≤ k → k ≤ c.args.many → (p : Relation)
    → is_among p own ≡ true → is_among (layer_of word k p) set ≡ true) c.in_ok-set.ensures c.in-Some.is in
    layers_marked (rules_in c.args.rules.now) own c.in-Some.set word c.args.many c.in_ok-marks.marks.items c.in_ok-marks.ensures all
