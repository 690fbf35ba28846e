use Rattle.std.proofs.Common.{ap, ◌∙◌}
use Rattle.rules_clauses.specs.Spread.{lists_of, numbers_in}
use Rattle.rules_clauses.specs.StoreView.{data_of}
use Rattle.rules.proofs.BodyLemmas.{next_named, last_named}
use Rattle.rules.proofs.bodies.relations_of.Goals as goal

pub loop-body-preserved : goal.loop-body-preserved
loop-body-preserved c =
    next_named c.args.item.now.variables.from (data_of c.args.store.now) c.deref-body-items.result.now c.loop-body.body-index c.body-item.result
    c.deref-in-loop-body.result.now c.loop-body.out.items c.add_relations.new.out.items
    c.keep_once.new.numbers.items (lists_of c.args.item.now.bodies.items) c.loop-body.invariant c.loop-body-test.true c.body-item.is
    (c.deref-in-loop-body.ensures.value ∙ c.in_ok-numbers.ensures ∙ ap numbers_in c.deref.ensures.value) c.in_ok-add_relations.ensures c.keep_once.ensures.same
    c.keep_once.ensures.rising

pub returns : goal.returns
returns c = record {
  same =
      last_named c.args.item.now.variables.from (data_of c.args.store.now) c.deref-body-items.result.now c.loop-body.body-index c.loop-body.out.items
      (lists_of c.args.item.now.bodies.items) c.loop-body.invariant c.loop-body-test.false;
  rising = c.loop-body.invariant.rising;
}
