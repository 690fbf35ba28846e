use Rattle.std.proofs.Common.{◌≡◌, ◌∙◌, ◌+◌, ap, sym, length, rules}
use Rattle.std.proofs.lemmas.List.{length-append}
use Rattle.util_interner.proofs.ListLemmas.{pushed_ends, pushed}
use Rattle.util_interner.proofs.name_list.NameList.push.Goals as goal

pub invariant_of-self-2 : goal.invariant_of-self-2
invariant_of-self-2 c =
    let xs = c.self.inside.bytes.items in
    let ys = c.args.name.now in
    let sum : c.in-Ok.end ≡ length xs + length ys = search rules in
    let end_is : c.in-Ok.end ≡ length c.extend_from_slice.new.self.items =
    sum ∙ sym (length-append xs ys) ∙ ap length (sym c.in_ok-extend_from_slice.ensures.items) in
    pushed_ends c.self.inside.ends.items _ _ c.self.inside.bytes.items _ _ _ c.self.invariant c.reserve.ensures.items c.push_reserved.ensures.items
    c.in_ok-extend_from_slice.ensures.items end_is

pub returns-clause-added : goal.returns-clause-added
returns-clause-added c =
    let xs = c.self.inside.bytes.items in
    let ys = c.args.name.now in
    let sum : c.in-Ok.end ≡ length xs + length ys = search rules in
    let end_is : c.in-Ok.end ≡ length c.extend_from_slice.new.self.items =
    sum ∙ sym (length-append xs ys) ∙ ap length (sym c.in_ok-extend_from_slice.ensures.items) in
    pushed c.self.inside.ends.items _ _ c.self.inside.bytes.items _ _ _ _ c.self.invariant c.self.view_is c.reserve.ensures.items
    c.push_reserved.ensures.items c.in_ok-extend_from_slice.ensures.items end_is
