-- The exit status of a run is at most 4.
use Rattle.std.proofs.Common.{ℕ, ◌≡◌, ◌≤◌, arith}
use Rattle.std.specs.Prelude.{Result, Ok, Err}
use Rattle.statement.specs.declared.status.Status.{Status}
use Rattle.statement.specs.declared.status.Status.TheVariants.{Answer, Refused}
use Rattle.program_streams.specs.declared.fault.RunFault.{RunFault}
use Rattle.program_streams.specs.declared.fault.RunFault.TheVariants.{Memory, Read, Write}
use Rattle.program_streams.specs.Exits.{exit_status}

pub within_four : (ended : Result Status RunFault) (status : ℕ) → status ≡ exit_status ended → status ≤ 4
within_four (Ok Answer) status is = omega (arith, is)
within_four (Ok Refused) status is = omega (arith, is)
within_four (Err Memory) status is = omega (arith, is)
within_four (Err Read) status is = omega (arith, is)
within_four (Err Write) status is = omega (arith, is)
