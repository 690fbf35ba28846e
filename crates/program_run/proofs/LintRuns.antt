-- What `lint` wrote.
use Rattle.std.proofs.Common.{ℕ, ◌≡◌, ◌≢◌, List, refl}
use Rattle.std.specs.Prelude.{Option, Result, Ok, Err, IfOk, IfErr}
use Rattle.std.specs.Io.KnownBytes.{Appends, Keeps}
use Rattle.statement.specs.Output.{AppendsFront}
use Rattle.statement.specs.Answers.{Reply}
use Rattle.program_searches.specs.Replies.{reply_of}
use Rattle.program_streams.specs.declared.fault.RunFault.{RunFault}
use Rattle.program_streams.specs.declared.fault.RunFault.TheVariants.{Memory, Read, Write}
use Rattle.program_run.specs.declared.runs.Ran.{Ran}
use Rattle.program_run.specs.Ran.{ended_of}
use Rattle.program_streams.specs.Input.{IsReadFrom}
use Rattle.program_run.specs.Linted.{IsLintReply, HasLinted}

pub linted : (r : Result Ran RunFault) (input left before after : Option (List ℕ))
    → IfOk r (λ ran. IsReadFrom input left ran.bytes.items × IsLintReply ran.bytes.items (reply_of ran.reply) × Appends before after ran.reply.output.items)
    → IfErr r (λ fault. fault ≢ Write → Keeps before after)
    → IfErr r (λ fault. fault ≡ Write → (bytes : List ℕ) × (reply : Reply)
    × IsReadFrom input left bytes × IsLintReply bytes reply × AppendsFront before after reply.output)
    → HasLinted (ended_of r) input left before after
linted (Ok ran) input left before after ok silent broken = (ran.bytes.items, reply_of ran.reply, ok.0, ok.1, refl, ok.2)
linted (Err Memory) input left before after ok silent broken = silent (λ e. cc)
linted (Err Read) input left before after ok silent broken = silent (λ e. cc)
linted (Err Write) input left before after ok silent broken = broken refl
