-- Keys of the states in lanes.
use Rattle.std.proofs.Common.{◌≡◌, ◌≢◌, ℕ, zero, suc, ◌+◌, ◌-◌, ◌*◌, ◌/◌, ◌%◌, ◌^◌, ◌<◌, ◌≤◌, List, length, get_or, get_or-set_same, get_or-set_other, refl, sym, ap, ◌∙◌, arith, inl, inr, w64, max, ◌⊎◌}
use Rattle.std.specs.Prelude.{◌==◌, slice_range}
use Rattle.std.proofs.Math.ListN.{set}
use Rattle.std.specs.Int.{bit_at}
use Rattle.std.specs.Int.Bits.{bit_or}
use Rattle.std.proofs.lemmas.Bool.{cases_eq, cases_lt}
use Rattle.std.proofs.lemmas.List.Edits.{get_or-between}
use Rattle.std.proofs.lemmas.Nat.Bits.{bit_at-zero, bit_at_or, bit_at_set_same, bit_at_set_other}
use Rattle.game.specs.Keys.{has_bit}
use Rattle.propnet.specs.Values.{lane}
use Rattle.position.specs.NetState.{is_lane_on}

no_bit : (word place k : ℕ) → bit_at (bit_or word (0 * 2 ^ place % 2 ^ 64)) k ≡ bit_at word k
no_bit word place k =
    let none : 0 * 2 ^ place % 2 ^ 64 ≡ 0 = grind arith in
    let zero_bit : bit_at (0 * 2 ^ place % 2 ^ 64) k ≡ 0 = ap (λ (n : ℕ). bit_at n k) none ∙ bit_at-zero k in
    let both = bit_at_or word (0 * 2 ^ place % 2 ^ 64) k in
    omega arith

pub bit_here : (word place bit : ℕ) → place < 64 → bit < 2 → bit_at word place ≡ 0 → bit_at (bit_or word (bit * 2 ^ place % 2 ^ 64)) place ≡ bit
bit_here word place zero within is_bit none = no_bit word place place ∙ none
bit_here word place (suc zero) within is_bit none = bit_at_set_same w64 word place within
bit_here word place (suc (suc b)) within is_bit none = absurd (omega arith)

pub bit_else : (word place bit k : ℕ) → place < 64 → bit < 2 → k ≢ place → bit_at (bit_or word (bit * 2 ^ place % 2 ^ 64)) k ≡ bit_at word k
bit_else word place zero k within is_bit other = no_bit word place k
bit_else word place (suc zero) k within is_bit other = bit_at_set_other w64 word place within k other
bit_else word place (suc (suc b)) k within is_bit other = absurd (omega arith)

-- one word more of a key
pub word_more : (states key : List ℕ) (k w end word q : ℕ) → w < length key → end ≤ length states → (length states ≤ end) ⊎ (64 * w + 64 ≤ end)
    → ((p : ℕ) → p < end - 64 * w → bit_at word p ≡ lane (slice_range states (64 * w) end) k p)
    → ((p : ℕ) → p < length states → p / 64 < w → has_bit key p ≡ is_lane_on states k p)
    → q < length states → q / 64 < w + 1 → has_bit (set key w word) q ≡ is_lane_on states k q
word_more states key k w end word q room within reach packed before inside below = elim (cases_eq (q / 64) w) [
  | inl here ↦
      let place : q ≡ 64 * w + q % 64 = omega arith in
      let short : q < end = elim reach [ inl all ↦ omega arith | inr most ↦ omega arith ] in
      ap (λ (i : ℕ). bit_at (get_or (set key w word) i 0) (q % 64) == 1) here
      ∙ ap (λ (v : ℕ). bit_at v (q % 64) == 1) (get_or-set_same key w word 0 room)
      ∙ ap (λ (b : ℕ). b == 1) (packed (q % 64) (omega arith)
      ∙ ap (λ (v : ℕ). bit_at v k) (get_or-between states (64 * w) end (q % 64) 0 (omega arith))
      ∙ ap (λ (i : ℕ). bit_at (get_or states i 0) k) (sym place))
  | inr other ↦
      ap (λ (v : ℕ). bit_at v (q % 64) == 1) (get_or-set_other key w (q / 64) word 0 other) ∙ before q inside (omega arith)
]
