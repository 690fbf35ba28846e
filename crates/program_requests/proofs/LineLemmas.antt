-- Lines, one byte after the other.
use Rattle.std.proofs.Common.{ℕ, zero, suc, ◌+◌, ◌≡◌, ◌≢◌, ◌<◌, List, [], ◌∷◌, ◌++◌, length, take, slice_index, sym, ap, subst, ◌∙◌, arith}
use Rattle.std.proofs.Math.Seq.{take-suc}
use Rattle.std.proofs.lemmas.List.Elements.{All-append}
use Rattle.program_requests.specs.Lines.{IsLine}

one_byte : (b : ℕ) → b ≢ 10 → IsLine (b ∷ [])
one_byte b other zero d less = other
one_byte b other (suc k) d less = absurd (omega (arith, less))

pub line_more : (bytes : List ℕ) (at : ℕ) → at < length bytes → IsLine (take at bytes) → slice_index bytes at ≢ 10 → IsLine (take (at + 1) bytes)
line_more bytes at within line other =
    let more : IsLine (take at bytes ++ slice_index bytes at ∷ []) =
    All-append (λ b. b ≢ 10) (take at bytes) (slice_index bytes at ∷ []) line (one_byte (slice_index bytes at) other) in
    let e : suc at ≡ at + 1 = omega arith in
    subst (λ n. IsLine (take n bytes)) e (subst IsLine (sym (take-suc bytes at 0 within)) more)

pub with_end : (left : List ℕ) (at : ℕ) → at < length left → slice_index left at ≡ 10 → take (at + 1) left ≡ take at left ++ 10 ∷ []
with_end left at within is =
    let e : suc at ≡ at + 1 = omega arith in
    ap (λ n. take n left) (sym e) ∙ take-suc left at 0 within ∙ ap (λ b. take at left ++ b ∷ []) is
