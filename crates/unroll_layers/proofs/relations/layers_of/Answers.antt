use Rattle.std.proofs.Common.{ℕ, List, ◌≡◌, ◌<◌, [], get_or, length, map, subst, arith}
use Rattle.rules_relations.specs.Relations.{relation_in}
use Rattle.rules.specs.RuleSets.{texts_of}
use Rattle.meaning.specs.Names.{names_of}
use Rattle.unroll_layers.specs.ByNumber.{HasLayer}
use Rattle.unroll_layers.proofs.Growing.{if_true, layers_more, layers_whole, texts_at}
use Rattle.unroll_layers.proofs.relations.layers_of.Goals as goal

pub loop-place-preserved : goal.loop-place-preserved
loop-place-preserved c =
    let own = map relation_in c.args.own.now in
    let names = c.args.names.now in
    let inside : c.loop-place.place < length names = omega (arith, c.loop-place-test.true, c.requires) in
    let here : texts_of c.deref.result.now ≡ get_or (names_of names) c.loop-place.place []
    = texts_at names c.loop-place.place c.index-names-place.result c.deref.result.now inside c.index-names-place.is c.deref.ensures.value in
    let whole : HasLayer own (texts_of c.deref.result.now) c.add_layer.new.set
    = if_true c.in_ok-add_layer.field-0 _ c.in_ok-add_layer.ensures.added c.if-not-branch.false in
    layers_more own (names_of names) c.loop-place.place c.loop-place.set c.add_layer.new.set c.in_ok-add_layer.ensures.grown
    c.loop-place.invariant (subst (λ (ws : List (List ℕ)). HasLayer own ws c.add_layer.new.set) here whole)

pub returns : goal.returns
returns c =
    layers_whole (map relation_in c.args.own.now) (names_of c.args.names.now) c.loop-place.set c.args.many
    (λ j lt. c.loop-place.invariant j (omega (arith, lt, c.loop-place-test.false)))
