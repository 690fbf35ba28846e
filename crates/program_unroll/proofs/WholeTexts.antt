-- What is told of a text as far as a run reads it is told of the whole text.
use Rattle.std.proofs.Common.{ℕ, ◌≡◌, ◌≢◌, ◌≤◌, ◌<◌, inl, inr, List, [], ◌++◌, length, take, drop, refl, sym, ap, subst, ◌∙◌, arith, rules}
use Rattle.std.proofs.Common.{Bool, true, false, append-nil, drop_of_length-le, take-append-drop}
use Rattle.std.proofs.lemmas.List.{length-take}
use Rattle.std.specs.Prelude.{Some, nat_lt}
use Rattle.statement.specs.Input.{read_limit}
use Rattle.statement.specs.Answers.{Reply}
use Rattle.statement.specs.Reading.{text_limit, text_fault_in, too_long, or_text_fault, fault_where, first_fault, first_unclosed}
use Rattle.statement.specs.Lexical.{spots}
use Rattle.statement.specs.TextFaults.{IsTextFault}
use Rattle.statement.specs.declared.text_fault.KifFault.{KifFault}
use Rattle.statement.specs.declared.text_fault.KifFault.TheVariants as texts
use Rattle.unroll_strata.specs.Lawful.{IsUnread}
use Rattle.unroll_strata.specs.declared.fault.UnrollFault.{UnrollFault}
use Rattle.unroll_strata.specs.declared.fault.UnrollFault.TheVariants as faults
use Rattle.unroll_writer.specs.declared.written.Bounds.{Bounds}
use Rattle.unroll.specs.Written.{IsUnrollFault, IsWrittenFor}
use Rattle.program_searches.proofs.MoveFacts.{one_text_fault}
use Rattle.program_unroll.specs.Unrolled.{RefusesToUnroll}

few : (limit : ℕ) (whole : List ℕ) → length (take limit whole) ≤ limit
few limit whole = let size = length-take limit whole in grind (arith, size)

no_more : (limit : ℕ) (whole : List ℕ) → length (take limit whole) ≤ length whole
no_more limit whole = let size = length-take limit whole in grind (arith, size)

-- a text below the limit is read whole
read_whole : (limit : ℕ) (whole : List ℕ) → length (take limit whole) < limit → take limit whole ≡ whole
read_whole limit whole less =
    let size = length-take limit whole in
    let within : length whole ≤ limit = grind (arith, size, less) in
    let none : drop limit whole ≡ [] = drop_of_length-le whole within in
    sym (append-nil (take limit whole)) ∙ ap (λ (l : List ℕ). take limit whole ++ l) (sym none) ∙ take-append-drop limit whole

kept_whole : (kept whole : List ℕ) → kept ≡ take read_limit whole → length kept < read_limit → kept ≡ whole
kept_whole kept whole stand less =
    let same = ap (λ (l : List ℕ). length l) stand in
    let short : length (take read_limit whole) < read_limit = subst (λ n. n < read_limit) same less in
    stand ∙ read_whole read_limit whole short

pub written_over : (bounds : Bounds) (kept whole out : List ℕ) → kept ≡ take read_limit whole → IsWrittenFor bounds kept out
    → IsWrittenFor bounds whole out
written_over bounds kept whole out stand h =
    let short = h.reads.short in
    let less : length kept < read_limit = omega (arith, short) in
    subst (λ (l : List ℕ). IsWrittenFor bounds l out) (kept_whole kept whole stand less) h

below_is_true : (m n : ℕ) → m < n → nat_lt m n ≡ true
below_is_true m n h = search (rules, h)

is_too_long : (bytes : List ℕ) → text_limit < length bytes → text_fault_in bytes ≡ Some too_long
is_too_long bytes h =
    ap (λ b. or_text_fault (fault_where b too_long) (or_text_fault (first_fault 0 (spots bytes)) (first_unclosed (spots bytes))))
    (below_is_true text_limit (length bytes) h)

-- of two texts that are too long the second has each fault of the first
module _ (kept whole : List ℕ) (long : text_limit < length kept) (more : text_limit < length whole) where
  text_fault : (fault : KifFault) → fault ≢ texts.NoMemory → IsTextFault kept fault → IsTextFault whole fault
  text_fault fault known h =
      let same : fault ≡ texts.TooLong = one_text_fault kept fault texts.TooLong known h (λ e. cc) (is_too_long kept long) in
      subst (λ (f : KifFault). IsTextFault whole f) (sym same) (is_too_long whole more)

  any_text_fault : (fault : KifFault) → IsTextFault kept fault → IsTextFault whole fault
  any_text_fault texts.TooLong h = text_fault texts.TooLong (λ e. cc) h
  any_text_fault (texts.BadByte o) h = text_fault (texts.BadByte o) (λ e. cc) h
  any_text_fault (texts.TooDeep o) h = text_fault (texts.TooDeep o) (λ e. cc) h
  any_text_fault (texts.Unclosed o) h = text_fault (texts.Unclosed o) (λ e. cc) h
  any_text_fault (texts.Unopened o) h = text_fault (texts.Unopened o) (λ e. cc) h
  any_text_fault (texts.NameTooLong o) h = text_fault (texts.NameTooLong o) (λ e. cc) h
  any_text_fault texts.NoMemory h = absurd (omega (arith, long, h))

  unread : (fault : UnrollFault) → IsUnread kept fault → IsUnread whole fault
  unread (faults.Text fault) h = any_text_fault fault h
  unread (faults.Rules fault) h = absurd h
  unread (faults.NotStratified n) h = absurd h
  unread (faults.TooMany excess) h = absurd h
  unread (faults.Unstated n) h = absurd h
  unread faults.NoMemory h = tt

  fault_over : (fault : UnrollFault) → IsUnrollFault kept fault → IsUnrollFault whole fault
  fault_over fault (inl h) = inl (unread fault h)
  fault_over fault (inr h) = absurd (let short = h.1.short in omega (arith, long, short))

pub refuses_over : (kept whole : List ℕ) (reply : Reply) → kept ≡ take read_limit whole → RefusesToUnroll kept reply → RefusesToUnroll whole reply
refuses_over kept whole reply stand h = go (nat_lt (length kept) read_limit) refl
  where
    go : (b : Bool) → nat_lt (length kept) read_limit ≡ b → RefusesToUnroll whole reply
    go true e =
        let less : length kept < read_limit = search (rules, e) in
        subst (λ (l : List ℕ). RefusesToUnroll l reply) (kept_whole kept whole stand less) h
    go false e =
        let above : read_limit ≤ length kept = search (rules, e) in
        let same = ap (λ (l : List ℕ). length l) stand in
        let most = no_more read_limit whole in
        let long : text_limit < length kept = omega (arith, above) in
        let more : text_limit < length whole = omega (arith, above, same, most) in
        (h.0, h.1, fault_over kept whole long more h.0 h.2, h.3)
