-- All that is written, and the status.
use Rattle.std.specs.Prelude.{ℕ, List}
use Rattle.statement.specs.TextFaults.{refusal_line}
use Rattle.statement.specs.declared.status.Status.{Status}
use Rattle.statement.specs.declared.status.Status.TheVariants.{Answer, Refused}

-- all that is written, and the status
pub record Reply : Type 0 where
  pub output : List ℕ
  pub status : Status

abbrev pub answer : List ℕ → Reply
answer output = record { output = output; status = Answer }

abbrev pub refusal : List ℕ → Reply
refusal fault = record { output = refusal_line fault; status = Refused }
