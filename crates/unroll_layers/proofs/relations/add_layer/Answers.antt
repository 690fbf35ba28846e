use Rattle.std.proofs.Common.{◌<◌, length, map, arith}
use Rattle.rules_relations.specs.Relations.{relation_in}
use Rattle.rules.specs.RuleSets.{texts_of}
use Rattle.std.proofs.lemmas.List.{length-map}
use Rattle.unroll_layers.proofs.Growing.{layer_added, layer_here, layer_whole, grown_more}
use Rattle.unroll_layers.proofs.relations.add_layer.Goals as goal

pub loop-place-preserved : goal.loop-place-preserved
loop-place-preserved c =
    let own = map relation_in c.args.own.now in
    let names = texts_of c.args.names.now in
    let inside : c.loop-place.place < length c.args.own.now = omega (arith, c.loop-place-test.true) in
    let named : c.loop-place.place < length c.args.names.now = omega (arith, c.loop-place-test.true, c.if-own-names.false) in
    let here = layer_here c.args.own.now c.args.names.now c.loop-place.place _ c.index-names-place.result c.deref.result.now inside named
    c.index-names-place.is c.deref.ensures.value in
    record {
      grown = λ p h. grown_more c.loop-place.set c.insert.new.self _ c.in_ok-insert.ensures p (c.loop-place.invariant.grown p h);
      added = layer_added own names c.loop-place.place c.loop-place.set c.insert.new.self _ c.in_ok-insert.ensures here c.loop-place.invariant.added;
    }

pub returns-clause-added : goal.returns-clause-added
returns-clause-added c =
    let own = map relation_in c.args.own.now in
    let names = texts_of c.args.names.now in
    layer_whole own names c.loop-place.set
    (omega (arith, length-map c.args.own.now relation_in, length-map c.args.names.now (λ v. v.items), c.if-own-names.false))
    (λ j lt. c.loop-place.invariant.added j (omega (arith, lt, length-map c.args.own.now relation_in, c.loop-place-test.false)))
