use Rattle.std.proofs.Common.{ℕ, List, ◌<◌, ◌≤◌, ◌+◌, ◌≡◌, arith, ap, take, get_or, subst}
use Rattle.std.specs.Prelude.{length, sum}
use Rattle.std.proofs.lemmas.List.Sums.{sum_by_more_le}
use Rattle.propnet.proofs.Pushes.{length-gates}
use Rattle.propnet.proofs.net.Net.sources.Goals as goal

pub overflow_add-count : goal.overflow_add-count
overflow_add-count c =
    let net = c.args.self.now in
    let i = c.loop-inputs.inputs-index in
    let same : c.deref-inputs-items.result.now ≡ net.inputs.items = c.deref-inputs-items.ensures.value in
    let lt : i < length net.inputs.items = subst (λ (xs : List ℕ). i < length xs) same c.loop-inputs-test.true in
    let more : sum (take i net.inputs.items) + get_or net.inputs.items i 0 ≤ sum net.inputs.items = sum_by_more_le (λ x. x) net.inputs.items i 0 lt in
    let gates = length-gates net.nodes.list.items net.nodes.operands.items in
    let read : get_or c.deref-inputs-items.result.now i 0 ≡ get_or net.inputs.items i 0 = ap (λ (xs : List ℕ). get_or xs i 0) same in
    omega (arith, c.loop-inputs.invariant, more, read, net.placed.fit, gates, net.nodes.list.ok, net.nodes.list.small)
