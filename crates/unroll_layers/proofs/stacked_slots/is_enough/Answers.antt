use Rattle.std.proofs.Common.{ℕ, ◌-◌, ◌≡◌, length, map, subst, arith}
use Rattle.statement.specs.Dependence.{is_among}
use Rattle.rules_relations.specs.Relations.{relation_in}
use Rattle.rules.specs.RuleSetView.{rules_in}
use Rattle.ground_instances.specs.GroundView.{instances_of}
use Rattle.meaning.specs.Names.{names_of, word_in}
use Rattle.unroll_layers.specs.ByNumber.{MarkLayers}
use Rattle.unroll_layers.proofs.Growing.{if_true}
use Rattle.unroll_layers.proofs.Carried.{stacked_by}
use Rattle.unroll_layers.proofs.Marked.{if_so, some_is}
use Rattle.unroll_layers.proofs.stacked_slots.is_enough.Goals as goal

pub returns : goal.returns
returns c =
    let own = map relation_in c.args.own.now in
    let word = word_in own (names_of c.args.names.now) in
    let many = length c.args.names.now in
    let rules = rules_in c.args.rules.now in
    let rows = instances_of c.args.ground.now in
    let tops = c.in_ok-tops.tops.items in
    let layers = some_is c.in_ok-layers.field-0 c.in-Some.layers (λ marks. MarkLayers rules (λ p. is_among p own) word many marks.items)
    c.in_ok-layers.ensures c.in-Some.is in
    let firsts = some_is c.in_ok-firsts.field-0 c.in-Some-2.firsts (λ marks. MarkLayers rules (λ p. is_among p own) word 1 marks.items)
    c.in_ok-firsts.ensures c.in-Some-2.is in
    let befores = some_is c.in_ok-befores.field-0 c.in-Some-3.befores (λ marks. MarkLayers rules (λ p. is_among p own) word (many - 1) marks.items)
    c.in_ok-befores.ensures c.in-Some-3.is in
    let ask = if_true c.in_ok-all_ask.field-0 _ c.in_ok-all_ask.ensures c.if-not-branch.false in
    if_so c.has_stack.result _ _ c.has_stack.ensures
    (λ has found m e stacked.
    let less : many - 1 ≡ m = omega (arith, e) in
    c.what_is_carried_is_enough.ensures found rules (λ p. is_among p own) word m c.args.ground.now c.requires stacked
    (stacked_by rules own word m many rows tops c.in-Some.layers.items c.in-Some-2.firsts.items c.in-Some-3.befores.items e c.in_ok-tops.ensures layers
    firsts (subst (λ (k : ℕ). MarkLayers rules (λ p. is_among p own) word k c.in-Some-3.befores.items) less befores) ask has))
