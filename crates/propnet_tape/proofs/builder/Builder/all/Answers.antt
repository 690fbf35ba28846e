use Rattle.std.proofs.Common.{rules}
use Rattle.propnet_tape.proofs.Folds.{front_within, second_within, all_begins, all_queued, all_of_none}
use Rattle.propnet_tape.proofs.builder.Builder.all.Goals as goal

pub returns-then-is_empty-clause-value : goal.returns-then-is_empty-clause-value
returns-then-is_empty-clause-value c = all_of_none c.args.self.now c.args.queue.now.items c.requires.built (search rules)

pub loop-front-init : goal.loop-front-init
loop-front-init c = record {
  within = search rules;
  rest = all_begins c.args.self.now c.args.queue.now.items c.requires.built (search rules) c.requires.literals;
}

pub and-requires-clause-a : goal.and-requires-clause-a
and-requires-clause-a c = front_within c.args.self.now c.loop-front.self c.args.queue.now.items c.loop-front.queue.items c.loop-front.front _
    (search rules) c.index.ensures c.loop-front.invariant.rest

pub and-requires-clause-b : goal.and-requires-clause-b
and-requires-clause-b c = second_within c.args.self.now c.loop-front.self c.args.queue.now.items c.loop-front.queue.items c.loop-front.front _
    (search rules) c.index-in-loop-front.ensures c.loop-front.invariant.rest

pub loop-front-preserved : goal.loop-front-preserved
loop-front-preserved c = record {
  within = search rules;
  rest = all_queued c.args.self.now c.loop-front.self c.and.new.self c.args.queue.now.items c.loop-front.queue.items c.push.new.self.items
      c.loop-front.front _ _ _
      (search rules) c.index.ensures c.index-in-loop-front.ensures c.loop-front.invariant.rest c.and.ensures.step c.in_ok-literal.ensures.value
      c.in_ok-push.ensures.items;
}
