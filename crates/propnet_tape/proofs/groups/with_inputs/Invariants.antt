use Rattle.std.proofs.Common.{Bool, List, ◌<◌, length}
use Rattle.std.specs.Prelude.{All}
use Rattle.propnet.specs.Nets.{gates_of}
use Rattle.propnet_tape.specs.Marks.{AllMarked}
use Rattle.propnet_tape.proofs.groups.with_inputs.Given as goal

-- the nodes before this one stand behind those that are kept
abbrev pub invariant-loop-n : goal.invariant-loop-n
invariant-loop-n l = record {
  within : All (λ n. n < length (gates_of l.net)) l.nodes.items;
  kept : (marks : List Bool) → AllMarked marks l.nodes.items → AllMarked marks l.kept;
}
