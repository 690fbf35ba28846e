use Rattle.std.proofs.Common.{◌≤◌, length}
use Rattle.propnet.specs.Nets.{gates_of}
use Rattle.propnet_tape.specs.Marks.{IsClosedFrom, AllMarked}
use Rattle.propnet_tape.proofs.cones.cones.Given as goal

abbrev pub invariant-loop-n : goal.invariant-loop-n
invariant-loop-n l = record {
  within : l.n ≤ length (gates_of l.net);
  closed : IsClosedFrom (gates_of l.net) l.n l.marks.items;
  kept : AllMarked l.marks.items l.kept;
}

abbrev pub decreases-loop-n : goal.decreases-loop-n
decreases-loop-n l = l.n
