use Rattle.std.proofs.Common.{◌≡◌, ◌+◌, sum, take}
use Rattle.propnet.proofs.net.Net.sources.Given as goal

abbrev pub invariant-loop-inputs : goal.invariant-loop-inputs
invariant-loop-inputs l = l.count ≡ l.self.base + sum (take l.inputs-index l.self.inputs.items)
