use Rattle.std.proofs.Common.{◌∙◌, arith}
use Rattle.util_interner.proofs.ListLemmas.{all_kept, cut_ends, cut_lists}
use Rattle.util_interner.proofs.name_list.NameList.truncate.Goals as goal

pub returns-then-many-len : goal.returns-then-many-len
returns-then-many-len c = all_kept c.self.inside.ends.items c.self.inside.bytes.items _ _ _ c.self.view_is (c.len.ensures ∙ c.self.inside.ends.ok.0)
    c.if-many-len.true

pub invariant_of-self : goal.invariant_of-self
invariant_of-self c =
    cut_ends c.self.inside.ends.items _ _ c.self.inside.bytes.items _ c.args.many _ c.self.invariant
    (let e = c.len.ensures ∙ c.self.inside.ends.ok.0 in let h = c.if-many-len.false in omega (arith, e, h)) c.deref.ensures.value
    c.start_of-to.ensures c.truncate.ensures.items c.truncate-2.ensures.items

pub returns : goal.returns
returns c =
    cut_lists c.self.inside.ends.items _ _ c.self.inside.bytes.items _ _ c.args.many _ c.self.invariant c.self.view_is
    (let e = c.len.ensures ∙ c.self.inside.ends.ok.0 in let h = c.if-many-len.false in omega (arith, e, h)) c.deref.ensures.value
    c.start_of-to.ensures c.truncate.ensures.items c.truncate-2.ensures.items
