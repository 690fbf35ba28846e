-- This crate's own: what `run` promises does not rest on it.
-- The lines that tell of faults.
use Rattle.std.specs.Prelude.{ℕ, List, codes}
use Rattle.program_streams.specs.declared.fault.RunFault.{RunFault}
use Rattle.program_streams.specs.declared.fault.RunFault.TheVariants.{Memory, Read, Write}

-- the line of a fault, with its end
abbrev pub fault_line : RunFault → List ℕ
fault_line Memory = codes "no memory\n"
fault_line Read = codes "read fault\n"
fault_line Write = codes "write fault\n"
