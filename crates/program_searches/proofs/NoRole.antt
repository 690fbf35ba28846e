-- A text that names no role is refused, and one that names a role is told of it.
use Rattle.std.proofs.Common.{ℕ, ◌≡◌, inl, inr, List, Some, None, codes}
use Rattle.std.specs.Prelude.{Result, Ok, Err, IfOk}
use Rattle.statement.specs.TextFaults.{refusal_line}
use Rattle.statement.specs.declared.history_fault.HistoryFault.{HistoryFault}
use Rattle.statement.specs.NamedRules.{NamedRules}
use Rattle.statement.specs.Rules.{State}
use Rattle.statement.specs.declared.status.Status.TheVariants.{Refused}
use Rattle.program_searches.specs.declared.reply.Reply as shown
use Rattle.statement.specs.Answers.{Reply, refusal}
use Rattle.program_searches.specs.Replies.{reply_of}
use Rattle.statement.specs.Histories.{IsHistoryOf}
use Rattle.statement.specs.Moving.{history_reply}
use Rattle.statement.specs.Solving.{IsRoleNamed}
use Rattle.statement.specs.ForRole.{IsRoleReply}

pub some_role : (g : NamedRules) (role : List ℕ) (lines : ℕ → State → List ℕ) (after : List ℕ) (r : ℕ) → IsRoleNamed g role (Some r)
    → (reply : Reply) → ((ended : Result State HistoryFault) × IsHistoryOf g after ended × (reply ≡ history_reply g (lines r) ended))
    → IsRoleReply g role lines after reply
some_role g role lines after r named reply h = inr (r, (named, h.0, h.1, h.2))

pub no_role_told : {E : Type 0} (g : NamedRules) (role : List ℕ) (lines : ℕ → State → List ℕ) (after : List ℕ) (r : Result shown.Reply E)
    → IsRoleNamed g role None
    → IfOk r (λ reply. reply.output.items ≡ refusal_line (codes "S1 NoSuchRole")) → IfOk r (λ reply. reply.status ≡ Refused)
    → IfOk r (λ reply. IsRoleReply g role lines after (reply_of reply))
no_role_told g role lines after (Ok reply) none line status =
    let same : reply_of reply ≡ refusal (codes "S1 NoSuchRole") = cc (line, status) in
    inl (none, same)
no_role_told g role lines after (Err e) none line status = tt
