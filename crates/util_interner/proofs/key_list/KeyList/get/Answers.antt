use Rattle.std.proofs.Common.{◌∙◌}
use Rattle.util_interner.proofs.ListLemmas.{start_inside, end_inside, in_order, ends_inside, here}
use Rattle.util_interner.proofs.key_list.KeyList.get.Goals as goal

pub start_of-from-requires : goal.start_of-from-requires
start_of-from-requires c =
    start_inside c.self.inside.ends.items _ c.self.inside.numbers.items c.args.self.now _ c.self.view_is c.requires c.deref.ensures.value

pub end_of-to-requires : goal.end_of-to-requires
end_of-to-requires c =
    end_inside c.self.inside.ends.items _ c.self.inside.numbers.items c.args.self.now _ c.self.view_is c.requires c.deref-2.ensures.value

pub part_of-requires-clause-order : goal.part_of-requires-clause-order
part_of-requires-clause-order c =
    in_order c.self.inside.ends.items _ _ c.self.inside.numbers.items c.args.self.now _ _ _ c.self.invariant c.self.view_is c.requires
    c.deref.ensures.value c.deref-2.ensures.value c.start_of-from.ensures c.end_of-to.ensures

pub part_of-requires-clause-within : goal.part_of-requires-clause-within
part_of-requires-clause-within c =
    ends_inside c.self.inside.ends.items _ c.self.inside.numbers.items _ c.args.self.now _ _ c.self.invariant c.self.view_is c.requires
    c.deref-2.ensures.value c.deref-3.ensures.value c.end_of-to.ensures

pub returns : goal.returns
returns c =
    c.part_of.ensures
    ∙ here c.self.inside.ends.items _ _ c.self.inside.numbers.items _ c.args.self.now _ _ _ c.self.view_is c.requires
    c.deref.ensures.value c.deref-2.ensures.value c.deref-3.ensures.value c.start_of-from.ensures c.end_of-to.ensures
