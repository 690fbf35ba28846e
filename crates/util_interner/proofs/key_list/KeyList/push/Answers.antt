use Rattle.std.proofs.Common.{◌≡◌, ◌∙◌, ◌+◌, ◌++◌, ap, sym, length, rules, arith}
use Rattle.std.proofs.lemmas.List.{length-append}
use Rattle.util_interner.proofs.ListLemmas.{all_written, pushed_ends, pushed}
use Rattle.util_interner.proofs.key_list.KeyList.push.Goals as goal

pub invariant_of-self-2 : goal.invariant_of-self-2
invariant_of-self-2 c =
    let xs = c.self.inside.numbers.items in
    let ys = c.args.list.now in
    let now = c.loop-number.self-inside.numbers.items in
    let stop = c.loop-number-test.false in
    let written : now ≡ xs ++ ys =
    all_written xs _ now ys c.loop-number.number-index c.loop-number.invariant.left c.reserve-2.ensures.items (omega (arith, stop)) in
    let sum : c.in-Ok.end ≡ length xs + length ys = search rules in
    let end_is : c.in-Ok.end ≡ length now = sum ∙ sym (length-append xs ys) ∙ ap length (sym written) in
    pushed_ends c.self.inside.ends.items _ _ xs now ys _ c.self.invariant (c.loop-number.invariant.ends ∙ c.reserve.ensures.items)
    c.push_reserved-2.ensures.items written end_is

pub returns-clause-added : goal.returns-clause-added
returns-clause-added c =
    let xs = c.self.inside.numbers.items in
    let ys = c.args.list.now in
    let now = c.loop-number.self-inside.numbers.items in
    let stop = c.loop-number-test.false in
    let written : now ≡ xs ++ ys =
    all_written xs _ now ys c.loop-number.number-index c.loop-number.invariant.left c.reserve-2.ensures.items (omega (arith, stop)) in
    let sum : c.in-Ok.end ≡ length xs + length ys = search rules in
    let end_is : c.in-Ok.end ≡ length now = sum ∙ sym (length-append xs ys) ∙ ap length (sym written) in
    pushed c.self.inside.ends.items _ _ xs now ys _ _ c.self.invariant c.self.view_is (c.loop-number.invariant.ends ∙ c.reserve.ensures.items)
    c.push_reserved-2.ensures.items written end_is
