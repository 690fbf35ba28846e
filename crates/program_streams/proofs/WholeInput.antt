-- The reply to the bytes that were read is the reply to the whole input.
use Rattle.std.proofs.Common.{ℕ, ◌≡◌, ◌≤◌, ◌<◌, inl, inr, List, ◌++◌, length, drop, refl, sym, ap, subst, ◌∙◌, arith}
use Rattle.std.proofs.Common.{Bool, true, false, append-nil, drop_of_length-le, drop_at, length-append, rules}
use Rattle.std.specs.Prelude.{Option, Some, None, nat_lt}
use Rattle.statement.specs.Reading.{too_long, text_fault_in, fault_where, or_text_fault, text_limit, first_fault, first_unclosed}
use Rattle.statement.specs.Lexical.{spots}
use Rattle.statement.specs.TextFaults.{text_fault_words}
use Rattle.statement.specs.declared.text_fault.KifFault.TheVariants as faults
use Rattle.statement.specs.Queries.{Query}
use Rattle.statement.specs.Input.{read_limit, RepliesTo}
use Rattle.program_streams.specs.Input.{IsReadFrom}
use Rattle.statement.specs.Answers.{Reply, refusal}
use Rattle.statement.specs.Replies.{IsReply}
use Rattle.program_searches.proofs.MoveFacts.{one_text_fault}

below_is_true : (m n : ℕ) → m < n → nat_lt m n ≡ true
below_is_true m n h = search (rules, h)

is_too_long : (bytes : List ℕ) → text_limit < length bytes → text_fault_in bytes ≡ Some too_long
is_too_long bytes h =
    ap (λ b. or_text_fault (fault_where b too_long) (or_text_fault (first_fault 0 (spots bytes)) (first_unclosed (spots bytes))))
    (below_is_true text_limit (length bytes) h)

-- the reply to bytes that are too long says so
refuses_long : (query : Query) (bytes : List ℕ) (reply : Reply) → text_limit < length bytes → IsReply query bytes reply
    → reply ≡ refusal (text_fault_words faults.TooLong)
refuses_long query bytes reply h (inl p) =
    p.3 ∙ ap (λ e. refusal (text_fault_words e)) (one_text_fault bytes p.0 faults.TooLong p.1 p.2 (λ e. cc) (is_too_long bytes h))
refuses_long query bytes reply h (inr p) = absurd (let short = p.1.short in omega arith)

-- so it is the reply to all that begins with them
longer_too : (query : Query) (bytes rest : List ℕ) (reply : Reply) → text_limit < length bytes → IsReply query bytes reply
    → IsReply query (bytes ++ rest) reply
longer_too query bytes rest reply h p =
    let long : text_limit < length (bytes ++ rest) = omega (arith, length-append bytes rest) in
    inl (faults.TooLong, (λ e. cc), is_too_long (bytes ++ rest) long, refuses_long query bytes reply h p)

pub replies_to : (query : Query) (old left : Option (List ℕ)) (bytes : List ℕ) (reply : Reply)
    → IsReadFrom old left bytes → IsReply query bytes reply → RepliesTo query old left reply
replies_to query None left bytes reply read p = (bytes, tt, p)
replies_to query (Some whole) None bytes reply read p = absurd read.consumed
replies_to query (Some whole) (Some left) bytes reply read p = go (nat_lt (length bytes) read_limit) refl
  where
    go : (b : Bool) → nat_lt (length bytes) read_limit ≡ b → RepliesTo query (Some whole) (Some left) reply
    go true e =
        let less : length bytes < read_limit = search (rules, e) in
        let none = read.ended less in
        let same : bytes ≡ whole = sym (append-nil bytes) ∙ ap (λ (l : List ℕ). bytes ++ l) (sym none) ∙ sym read.consumed in
        let size : length whole ≤ read_limit = omega (arith, less, ap (λ (l : List ℕ). length l) same) in
        (bytes, (same, none ∙ sym (drop_of_length-le whole size)), p)
    go false e =
        let full : length bytes ≡ read_limit = omega (arith, read.within, let above : read_limit ≤ length bytes = search (rules, e) in above) in
        let rest : left ≡ drop read_limit whole =
        sym (drop_at bytes left read_limit full) ∙ ap (λ (l : List ℕ). drop read_limit l) (sym read.consumed) in
        let long : text_limit < length bytes = omega (arith, full) in
        (whole, (refl, rest), subst (λ (l : List ℕ). IsReply query l reply) (sym read.consumed) (longer_too query bytes left reply long p))
