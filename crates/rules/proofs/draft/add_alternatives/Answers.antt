use Rattle.std.proofs.Common.{refl}
use Rattle.rules.proofs.DraftLemmas.{one_more}
use Rattle.rules.proofs.draft.add_alternatives.Goals as goal

pub loop-body-preserved : goal.loop-body-preserved
loop-body-preserved c =
    one_more c.args.out.now.items c.loop-body.out.items c.push.new.self.items (record {
      variables = c.args.item.variables;
      head =
          c.args.item.head;
      body = c.in-Some.body;
    })
    c.loop-body.yielded c.in-Some.body c.args.item.variables c.args.item.head c.loop-body.invariant c.in_ok-push.ensures.items refl
