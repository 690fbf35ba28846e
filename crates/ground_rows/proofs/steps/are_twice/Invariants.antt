use Rattle.std.proofs.Common.{◌≡◌, take, drop}
use Rattle.ground_rows.proofs.steps.are_twice.Given as goal

abbrev pub invariant-loop-index : goal.invariant-loop-index
invariant-loop-index l = take l.index (drop l.half l.parts) ≡ take l.index l.parts
