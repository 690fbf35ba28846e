-- This crate's own: what `run` promises does not rest on it.
-- A literal by the number of its atom as one number: twice that of the atom, and one more where it is negated.
use Rattle.std.specs.Prelude.{ℕ, zero, suc, Bool, if◌then◌else◌, ◌≡◌, ◌<◌, ◌+◌, ◌*◌, ◌/◌, ◌%◌, ◌==◌, refl}
use Rattle.std.proofs.Common.{ap, ◌∙◌}
use Rattle.std.proofs.lemmas.Nat.{div-add-mod'}
use Rattle.std.proofs.Math.Nat.{mod-lt, zero-lt-suc, le_of_suc-le-suc, not-suc-le-zero}

abbrev pub literal_of_code : ℕ → ℕ × Bool
literal_of_code code = (code / 2, code % 2 == 1)

abbrev pub code_of : ℕ × Bool → ℕ
code_of literal = literal.0 * 2 + (if literal.1 then 1 else 0)

bit_back : (r : ℕ) → r < 2 → (if r == 1 then 1 else 0) ≡ r
bit_back zero h = refl
bit_back (suc zero) h = refl
bit_back (suc (suc r)) h = absurd (not-suc-le-zero (le_of_suc-le-suc (le_of_suc-le-suc h)))

-- the code of what a code stands for
pub code_of-literal : (code : ℕ) → code_of (literal_of_code code) ≡ code
code_of-literal code = ap (λ (r : ℕ). code / 2 * 2 + r) (bit_back (code % 2) (mod-lt code (zero-lt-suc 1))) ∙ div-add-mod' code 2
