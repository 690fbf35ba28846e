-- What each status says of what was told.
use Rattle.std.proofs.Common.{ℕ, ◌≡◌, List, refl, arith, subst}
use Rattle.statement.specs.declared.status.Status.{Status}
use Rattle.statement.specs.declared.status.Status.TheVariants.{Answer, Refused}
use Rattle.statement.specs.declared.width.Width.TheVariants.{Plain}
use Rattle.statement.specs.Replies.{IsReply}
use Rattle.program_words.specs.Asked.{query_of}
use Rattle.program_words.specs.Requests.{IsCommandIn}
use Rattle.program_words.specs.declared.command.Command.{Command}
use Rattle.gdlsolve_c.specs.declared.told.Outcome.{Outcome}
use Rattle.gdlsolve_c.specs.declared.told.Outcome.TheVariants.{Reply, Words}
use Rattle.gdlsolve_c.specs.Calls.{Fills, RoomReplied}
use Rattle.gdlsolve_c.specs.Telling.{told_bytes, reply_status, status_of, IsOutcome}

is_answer : (s : Status) → reply_status s ≡ 0 → s ≡ Answer
is_answer Answer e = refl
is_answer Refused e = absurd (omega arith)

is_refusal : (s : Status) → reply_status s ≡ 2 → s ≡ Refused
is_refusal Answer e = absurd (omega arith)
is_refusal Refused e = refl

replied : (s t : Status) (command : Command) (rules bytes old new : List ℕ) (size : ℕ) → s ≡ t → IsCommandIn Plain command
    → IsReply (query_of command) rules (record { output = bytes; status = s }) → Fills old new size bytes → RoomReplied t rules old new size
replied s t command rules bytes old new size e within h f =
    let P : Status → Type 0 = λ x. IsReply (query_of command) rules (record { output = bytes; status = x }) in
    (command, bytes, within, subst P e h, f)

pub answer_told : (told : Outcome) (rules old new : List ℕ) (size : ℕ) → IsOutcome rules told → Fills old new size (told_bytes told)
    → status_of told ≡ 0 → RoomReplied Answer rules old new size
answer_told (Reply reply) rules old new size h f e =
    replied reply.status Answer h.0 rules reply.output.items old new size (is_answer reply.status e) h.1 h.2 f
answer_told (Words text) rules old new size h f e = absurd (omega arith)

pub refusal_told : (told : Outcome) (rules old new : List ℕ) (size : ℕ) → IsOutcome rules told → Fills old new size (told_bytes told)
    → status_of told ≡ 2 → RoomReplied Refused rules old new size
refusal_told (Reply reply) rules old new size h f e =
    replied reply.status Refused h.0 rules reply.output.items old new size (is_refusal reply.status e) h.1 h.2 f
refusal_told (Words text) rules old new size h f e = absurd (omega arith)
