-- Bits of keys, and keys in rows.
use Rattle.std.proofs.Common.{◌≡◌, ◌≢◌, ℕ, ◌+◌, ◌-◌, ◌*◌, ◌/◌, ◌%◌, ◌<◌, ◌≤◌, Bool, true, false, cond, List, length, take, drop, get_or, get_or-set_same, get_or-set_other, refl, sym, ap, ◌∙◌, arith, inl, inr}
use Rattle.std.specs.Prelude.{◌==◌}
use Rattle.std.proofs.Math.ListN.{set}
use Rattle.std.specs.Int.{bit_at}
use Rattle.std.proofs.lemmas.Bool.{cases_eq, cases_lt}
use Rattle.std.proofs.Math.Nat.{mul-le-mul_right}
use Rattle.std.proofs.lemmas.Slice.{between_is, between-put_mid, take-put_mid_below, drop-put_mid}
use Rattle.game.specs.Keys.{has_bit, key_at}
use borrow.Rule.Slice.PartMut.{put_mid}

-- the bit that was written
pub bit_here : (key : List ℕ) (p word : ℕ) (on : Bool) → p / 64 < length key → bit_at word (p % 64) ≡ cond on 1 0
    → has_bit (set key (p / 64) word) p ≡ on
bit_here key p word on room is =
    ap (λ (w : ℕ). bit_at w (p % 64) == 1) (get_or-set_same key (p / 64) word 0 room) ∙ ap (λ (b : ℕ). b == 1) is ∙ step on
  where
    step : (b : Bool) → (cond b 1 0 == 1) ≡ b
    step true = refl
    step false = refl

-- the other bits
pub bit_other : (key : List ℕ) (p word q : ℕ) → p / 64 < length key → q ≢ p
    → ((k : ℕ) → k < 64 → k ≢ p % 64 → bit_at word k ≡ bit_at (get_or key (p / 64) 0) k)
    → has_bit (set key (p / 64) word) q ≡ has_bit key q
bit_other key p word q room other same = elim (cases_eq (q / 64) (p / 64)) [
  | inl alike ↦
      let apart : q % 64 ≢ p % 64 = λ e. other (omega arith) in
      ap (λ (i : ℕ). bit_at (get_or (set key (p / 64) word) i 0) (q % 64) == 1) alike
      ∙ ap (λ (w : ℕ). bit_at w (q % 64) == 1) (get_or-set_same key (p / 64) word 0 room)
      ∙ ap (λ (b : ℕ). b == 1) (same (q % 64) (omega arith) apart)
      ∙ ap (λ (i : ℕ). bit_at (get_or key i 0) (q % 64) == 1) (sym alike)
  | inr apart ↦ ap (λ (w : ℕ). bit_at w (q % 64) == 1) (get_or-set_other key (p / 64) (q / 64) word 0 apart)
]

-- Keys in rows.

pub row_within : (place count words : ℕ) → place < count → place * words + words ≤ count * words
row_within place count words lt =
    let more : (place + 1) * words ≤ count * words = mul-le-mul_right words (omega arith) in
    let step : (place + 1) * words ≡ place * words + words = grind arith in
    omega arith

pub row_fits : (place count words size : ℕ) → place < count → count * words ≤ size → place * words + words ≤ size
row_fits place count words size lt fits = let within = row_within place count words lt in omega arith

-- the key that was written in a row
pub key_written : (keys key : List ℕ) (words place k : ℕ) → place * words ≤ length keys → length key ≡ words
    → key_at (put_mid (place * words) k keys key) words place ≡ key
key_written keys key words place k room size =
    between-put_mid (place * words) k keys key (place * words + words) room (omega arith)

-- the other keys
pub key_kept : (keys key : List ℕ) (words place k q : ℕ) → place * words ≤ length keys → k ≡ words → length key ≡ words → q ≢ place
    → key_at (put_mid (place * words) k keys key) words q ≡ key_at keys words q
key_kept keys key words place k q room same size other = elim (cases_lt q place) [
  | inl before ↦
      let within = row_within q place words before in
      between_is (put_mid (place * words) k keys key) (q * words) (q * words + words)
      ∙ ap (drop (q * words)) (take-put_mid_below (place * words) k keys key (q * words + words) within room)
      ∙ sym (between_is keys (q * words) (q * words + words))
  | inr after ↦
      let within = row_within place q words (omega arith) in
      ap (take (q * words + words - q * words)) (drop-put_mid (place * words) k keys key (q * words) (omega arith) room (omega arith))
]

-- one key more of a row
pub keys_more : {A : Type 0} (f : List ℕ → A) (g : ℕ → A) (keys key : List ℕ) (words place k : ℕ) → place * words ≤ length keys → k ≡ words
    → length key ≡ words → f key ≡ g place → ((q : ℕ) → q < place → f (key_at keys words q) ≡ g q)
    → (q : ℕ) → q < place + 1 → f (key_at (put_mid (place * words) k keys key) words q) ≡ g q
keys_more f g keys key words place k room same size here before q below = elim (cases_eq q place) [
  | inl alike ↦
      ap (λ (i : ℕ). f (key_at (put_mid (place * words) k keys key) words i)) alike
      ∙ ap f (key_written keys key words place k room size) ∙ here ∙ sym (ap g alike)
  | inr other ↦ ap f (key_kept keys key words place k q room same size other) ∙ before q (omega arith)
]
