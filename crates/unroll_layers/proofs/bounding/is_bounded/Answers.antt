use Rattle.std.proofs.Common.{ℕ, ◌≤◌, ◌≡◌, Bool, true, List, length, map, subst}
use Rattle.statement.specs.Clause.{Relation}
use Rattle.statement.specs.Dependence.{is_among}
use Rattle.rules_relations.specs.Relations.{relation_in}
use Rattle.rules.specs.RuleSetView.{rules_in}
use Rattle.ground_instances.specs.GroundView.{instances_of}
use Rattle.meaning.specs.Layers.{layer_of}
use Rattle.meaning.specs.Names.{names_of, word_in}
use Rattle.unroll_layers.specs.Owners.{HasSlots}
use Rattle.unroll_layers.proofs.Growing.{if_true}
use Rattle.unroll_layers.proofs.Marked.{bounded_by, if_so, some_is}
use Rattle.unroll_layers.proofs.bounding.is_bounded.Goals as goal

pub returns : goal.returns
returns c =
    let own = map relation_in c.args.own.now in
    let word = word_in own (names_of c.args.names.now) in
    let many = length c.args.names.now in
    let rules = rules_in c.args.rules.now in
    let rows = instances_of c.args.ground.now in
    let in_layers = some_is c.in_ok-in_layers.field-0 c.in-Some.in_layers (λ (set : List Relation). (k : ℕ) → 1 ≤ k → k ≤ many → (p : Relation)
    → is_among p own ≡ true → is_among (layer_of word k p) set ≡ true) c.in_ok-in_layers.ensures c.in-Some.is in
    let ask = if_true c.in_ok-all_ask.field-0 _ c.in_ok-all_ask.ensures c.if-not-branch.false in
    if_so c.has_slots.result _ _ c.has_slots.ensures
    (λ has found layered. c.what_is_slotted_is_bounded.ensures found rules (λ p. is_among p own) word many c.args.ground.now c.requires layered
    (bounded_by rules own word many rows c.in_ok-tops.tops.items c.in_ok-layers.layers.items _ _ c.in_ok-tops.ensures c.in_ok-set_of.ensures
    c.in_ok-layers.ensures in_layers ask
    (subst (λ (layers : List Bool). HasSlots c.in_ok-tops.tops.items layers rows many) c.deref-3.ensures.value
    (subst (λ (tops : List Bool). HasSlots tops c.deref-3.result.now rows many) c.deref-2.ensures.value has))))
