use Rattle.std.proofs.Common.{drop}
use Rattle.ground_terms.proofs.Measures.{LeavesRoom}
use Rattle.ground_terms.proofs.arena.Arena.are_too_long.Given as goal

abbrev pub invariant-loop-part : goal.invariant-loop-part
invariant-loop-part l = LeavesRoom l.self l.values l.parts (drop l.part-index l.parts) l.left
