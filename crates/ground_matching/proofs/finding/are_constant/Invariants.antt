use Rattle.std.proofs.Common.{◌≡◌, drop}
use Rattle.ground_matching.specs.Finding.{are_constant}
use Rattle.ground_matching.proofs.finding.are_constant.Given as goal

abbrev pub invariant-loop-part : goal.invariant-loop-part
invariant-loop-part l = are_constant (drop l.part-index l.parts) ≡ are_constant l.parts
