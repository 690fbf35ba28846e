use Rattle.std.proofs.Common.{rules, ℕ, ◌≡◌, ◌+◌, ◌-◌, ◌++◌, List, length, ap, ◌∙◌, arith}
use Rattle.std.specs.List.{range_with_len}
use Rattle.std.proofs.lemmas.List.FromFn.{length-range_with_len}
use Rattle.propnet.proofs.Pushes.{IsStored, stored, length-gates, pushed, laid_push}
use Rattle.propnet.proofs.nodes.Nodes.push_over.Goals as goal

pub overflow_cast-result : goal.overflow_cast-result
overflow_cast-result c =
    let size = length-gates c.args.self.now.list.items c.args.self.now.operands.items in
    let is : c.len-count.result ≡ length c.args.self.now.list.items = search rules in
    omega arith

pub overflow_cast-count : goal.overflow_cast-count
overflow_cast-count c =
    let size = length-gates c.args.self.now.list.items c.args.self.now.operands.items in
    let is : c.len-count.result ≡ length c.args.self.now.list.items = search rules in
    let few = c.requires.few in
    omega arith

pub invariant_of-self-2 : goal.invariant_of-self-2
invariant_of-self-2 c =
    let old = c.args.self.now in
    let start = c.args.start in
    let is : c.len-count.result ≡ length old.list.items = search rules in
    let reads : List ℕ = range_with_len start (length old.list.items - start) in
    let size : length reads ≡ length old.list.items - start = length-range_with_len start (length old.list.items - start) in
    let many : c.len-count.result - start ≡ length reads = omega arith in
    let end : c.in_ok-end.end ≡ length old.operands.items + (c.len-count.result - start) = c.in_ok-end.ensures.end in
    let all : c.in_ok-end.end ≡ length old.operands.items + length reads = omega arith in
    let s : IsStored old.list.items old.operands.items c.args.name reads c.push_reserved.new.self.items c.count_up.new.operands.items
    c.len-count.result (c.len-count.result - start) c.in_ok-end.end =
    stored old.list.items c.room_for.new.list.items old.operands.items c.room_for.new.operands.items _ c.args.name reads _ _ _ (c.len-count.result - start) c.in_ok-end.end
    c.room_for.ensures.list c.room_for.ensures.operands c.of-label.ensures
    (c.count_up.ensures ∙ ap (λ (n : ℕ). c.room_for.new.operands.items ++ range_with_len start (n - start)) is) c.push_reserved.ensures.items many all is in
    record { laid = laid_push old.list.items old.operands.items c.args.name reads _ _ _ _ _ old.laid s }

pub returns : goal.returns
returns c =
    let old = c.args.self.now in
    let start = c.args.start in
    let is : c.len-count.result ≡ length old.list.items = search rules in
    let reads : List ℕ = range_with_len start (length old.list.items - start) in
    let size : length reads ≡ length old.list.items - start = length-range_with_len start (length old.list.items - start) in
    let many : c.len-count.result - start ≡ length reads = omega arith in
    let end : c.in_ok-end.end ≡ length old.operands.items + (c.len-count.result - start) = c.in_ok-end.ensures.end in
    let all : c.in_ok-end.end ≡ length old.operands.items + length reads = omega arith in
    let s : IsStored old.list.items old.operands.items c.args.name reads c.push_reserved.new.self.items c.count_up.new.operands.items
    c.len-count.result (c.len-count.result - start) c.in_ok-end.end =
    stored old.list.items c.room_for.new.list.items old.operands.items c.room_for.new.operands.items _ c.args.name reads _ _ _ (c.len-count.result - start) c.in_ok-end.end
    c.room_for.ensures.list c.room_for.ensures.operands c.of-label.ensures
    (c.count_up.ensures ∙ ap (λ (n : ℕ). c.room_for.new.operands.items ++ range_with_len start (n - start)) is) c.push_reserved.ensures.items many all is in
    pushed old.list.items old.operands.items c.args.name reads _ _ _ _ _ old.laid s

pub count_up-requires-clause-few : goal.count_up-requires-clause-few
count_up-requires-clause-few c =
    let size = length-gates c.args.self.now.list.items c.args.self.now.operands.items in
    let is : c.len-count.result ≡ length c.args.self.now.list.items = search rules in
    let few = c.requires.few in
    omega arith
