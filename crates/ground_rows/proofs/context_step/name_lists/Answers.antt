use Rattle.ground_rows.proofs.Facts.{lists_next, names_begin, names_next, names_end}
use Rattle.ground_rows.proofs.context_step.name_lists.Goals as goal

pub loop-list-init : goal.loop-list-init
loop-list-init c = (c.requires.within, names_begin _ _ _ c.new-named.ensures.items)

pub loop-list-preserved : goal.loop-list-preserved
loop-list-preserved c = (
  lists_next _ c.args.lists.now c.loop-list.list-index c.list-item.result c.loop-list-test.true c.list-item.is c.loop-list.invariant.0,
  names_next _ _ c.args.lists.now c.loop-list.list-index c.list-item.result _ c.loop-list.named.items c.push.new.self.items
      c.in_ok-sorted_by_text.field-0 c.loop-list-test.true c.list-item.is c.deref.ensures.value c.loop-list.invariant.1
      c.in_ok-sorted_by_text.ensures c.in_ok-push.ensures.items,
)

pub returns : goal.returns
returns c = names_end _ _ c.args.lists.now c.loop-list.list-index c.loop-list.named.items c.loop-list-test.false c.loop-list.invariant.1
