-- Words of lanes, each of which is given one of many states.
use Rattle.std.proofs.Common.{◌≡◌, ◌≢◌, ℕ, zero, suc, ◌+◌, ◌*◌, ◌^◌, ◌%◌, ◌<◌, ◌≤◌, List, length, get_or, get_or-set_same, get_or-set_other, refl, sym, subst, ap, ◌∙◌, arith, inl, inr, w64}
use Rattle.std.proofs.Math.ListN.{set}
use Rattle.std.specs.Prelude.{replicate}
use Rattle.std.specs.Int.{bit_at}
use Rattle.std.specs.Int.Bits.{bit_or}
use Rattle.std.proofs.lemmas.Bool.{cases_eq}
use Rattle.std.proofs.lemmas.Nat.Bits.{bit_at-zero, bit_at_set_same, bit_at_set_other}
use Rattle.propnet.specs.Values.{lane}
use Rattle.position.specs.NetSources.{AreMarked}

-- a bit is set in one word

pub set_here : (words : List ℕ) (place l : ℕ) → place < length words → l < 64
    → lane (set words place (bit_or (get_or words place 0) (1 * 2 ^ l % 2 ^ 64))) l place ≡ 1
set_here words place l room few =
    let word = bit_or (get_or words place 0) (1 * 2 ^ l % 2 ^ 64) in
    ap (λ (w : ℕ). bit_at w l) (get_or-set_same words place word 0 room) ∙ bit_at_set_same w64 (get_or words place 0) l few

pub set_word : (words : List ℕ) (place l k word : ℕ) → k ≢ place → lane (set words place word) l k ≡ lane words l k
set_word words place l k word other = ap (λ (w : ℕ). bit_at w l) (get_or-set_other words place k word 0 other)

pub set_others : (words : List ℕ) (place l j k : ℕ) → place < length words → l < 64 → j ≢ l
    → lane (set words place (bit_or (get_or words place 0) (1 * 2 ^ l % 2 ^ 64))) j k ≡ lane words j k
set_others words place l j k room few other =
    let word = bit_or (get_or words place 0) (1 * 2 ^ l % 2 ^ 64) in
    elim (cases_eq k place) [
      | inl same ↦
          subst (λ (i : ℕ). lane (set words place word) j i ≡ lane words j i) (sym same)
          (ap (λ (w : ℕ). bit_at w j) (get_or-set_same words place word 0 room) ∙ bit_at_set_other w64 (get_or words place 0) l few j other)
      | inr apart ↦ set_word words place j k word apart
    ]

-- one lane more is marked
pub marked_more : (places old new : List ℕ) (i place : ℕ) → place ≡ get_or places i 0
    → lane new i place ≡ 1 → ((k : ℕ) → k ≢ place → lane new i k ≡ lane old i k)
    → ((j k : ℕ) → j ≢ i → lane new j k ≡ lane old j k)
    → AreMarked places old i → AreMarked places new (i + 1)
marked_more places old new i place is here word others h = record {
  here = λ l below. elim (cases_eq l i) [
    | inl same ↦
        subst (λ (j : ℕ). lane new j (get_or places j 0) ≡ 1) (sym same) (ap (λ (p : ℕ). lane new i p) (sym is) ∙ here)
    | inr apart ↦ others l (get_or places l 0) apart ∙ h.here l (omega arith)
  ];
  other = λ l k below no_place. elim (cases_eq l i) [
    | inl same ↦
        let elsewhere : k ≢ place = λ e. no_place (e ∙ is ∙ ap (λ (j : ℕ). get_or places j 0) (sym same)) in
        ap (λ (j : ℕ). lane new j k) same ∙ word k elsewhere ∙ h.fresh i k (omega arith)
    | inr apart ↦ others l k apart ∙ h.other l k (omega arith) no_place
  ];
  fresh = λ l k above. others l k (λ e. omega arith) ∙ h.fresh l k (omega arith);
}

-- the lanes whose states stand before k have their bits, and the others none
pub record AreGathered (places : List ℕ) (word k lanes : ℕ) : Type 0 where
  pub past : (l : ℕ) → l < length places → get_or places l 0 < k → bit_at lanes l ≡ bit_at word (get_or places l 0)
  pub rest : (l : ℕ) → l < length places → k ≤ get_or places l 0 → bit_at lanes l ≡ 0

-- no lane is marked
none_marked : (n k : ℕ) → ◌≡◌ {A = ℕ} (get_or (replicate n 0) k 0) 0
none_marked zero k = refl
none_marked (suc n) zero = refl
none_marked (suc n) (suc k) = none_marked n k

pub all_fresh : (n l k : ℕ) → lane (replicate n 0) l k ≡ 0
all_fresh n l k = ap (λ (w : ℕ). bit_at w l) (none_marked n k) ∙ bit_at-zero l
