use Rattle.std.proofs.Common.{◌≡◌, ℕ, ◌++◌, map, take, slice_index}
use Rattle.propnet_tape.proofs.parts.push_each.Given as goal

abbrev pub invariant-loop-number : goal.invariant-loop-number
invariant-loop-number l = l.list.items ≡ l.fn.list.items ++ map (λ (n : ℕ). slice_index l.literals n) (take l.number-index l.numbers)
