use Rattle.std.proofs.Common.{take}
use Rattle.program_requests.specs.Lines.{IsLine}
use Rattle.program_requests.proofs.lines.end_in.Given as goal

abbrev pub invariant-loop-at : goal.invariant-loop-at
invariant-loop-at l = IsLine (take l.at l.bytes)
