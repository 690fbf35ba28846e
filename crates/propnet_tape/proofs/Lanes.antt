-- One gate over words, lane by lane.
use Rattle.std.proofs.Common.{
  ◌≤◌,
  ◌≡◌,
  ◌≢◌,
  ℕ,
  suc,
  zero,
  ◌+◌,
  ◌-◌,
  ◌*◌,
  ◌^◌,
  ◌<◌,
  ◌==◌,
  not,
  ◌&&◌,
  List,
  length,
  get_or,
  set,
  drop,
  refl,
  ◌∙◌,
  ap,
  arith,
  min,
  get_or-set_same,
  get_or-set_other,
  ◌⊎◌,
  inl,
  inr,
  length-set,
  ◌∷◌,
  add-one,
  ◌/◌,
  ◌%◌,
  sym,
  Bool,
  false,
}
use Rattle.std.specs.Int.{bit_at, bit_not, w64}
use Rattle.std.specs.Int.Bits.{bit_and}
use Rattle.std.proofs.lemmas.Nat.Bits.{bit_at_and, bit_at-lt, bit_at_not}
use Rattle.std.proofs.lemmas.Bool.{cases_eq, cases_lt}
use Rattle.propnet_tape.specs.Values.{written, is_bit_on, is_lane_on, pass, start}
use Rattle.std.proofs.Math.Seq.{drop-cons}
use Rattle.propnet_tape.specs.declared.gates.Gate.{Gate}
use Rattle.propnet_tape.proofs.Passes.{written_below, written_same, written_not, written_other, pass_same}

pub is_one_min : (a b : ℕ) → a < 2 → b < 2 → (min a b == 1) ≡ ((a == 1) && (b == 1))
is_one_min zero zero h k = refl
is_one_min zero (suc zero) h k = refl
is_one_min (suc zero) zero h k = refl
is_one_min (suc zero) (suc zero) h k = refl
is_one_min (suc (suc a)) b h k = absurd (omega arith)
is_one_min zero (suc (suc b)) h k = absurd (omega arith)
is_one_min (suc zero) (suc (suc b)) h k = absurd (omega arith)

pub is_one_not : (a : ℕ) → a < 2 → (1 - a == 1) ≡ not (a == 1)
is_one_not zero h = refl
is_one_not (suc zero) h = refl
is_one_not (suc (suc a)) h = absurd (omega arith)

pub bit_and_is : (x y k : ℕ) → is_bit_on (bit_and x y) k ≡ (is_bit_on x k && is_bit_on y k)
bit_and_is x y k = rw (bit_at_and x y k) (is_one_min (bit_at x k) (bit_at y k) (bit_at-lt x k) (bit_at-lt y k))

pub bit_not_is : (x k : ℕ) → x < 2 ^ 64 → k < 64 → is_bit_on (bit_not w64 x) k ≡ not (is_bit_on x k)
bit_not_is x k f h = rw (bit_at_not w64 x k f h) (is_one_not (bit_at x k) (bit_at-lt x k))

-- a word and its negation written
pub lane_written : (words : List ℕ) (s k x y : ℕ) → s + 1 < length words → is_bit_on y k ≡ not (is_bit_on x k)
    → (l : ℕ) → is_lane_on (set (set words s x) (s + 1) y) k l ≡ written (is_lane_on words k) s (is_bit_on x k) l
lane_written words s k x y h e l = by_place (cases_eq l (s + 1)) (cases_eq l s)
  where
    by_place : (l ≡ s + 1) ⊎ (l ≢ s + 1) → (l ≡ s) ⊎ (l ≢ s) → is_lane_on (set (set words s x) (s + 1) y) k l ≡ written (is_lane_on words k) s
        (is_bit_on x k) l
    by_place (inl a) b =
        let m : s + 1 < length (set words s x) = rw length-set h in
        rw (written_not (is_lane_on words k) s (is_bit_on x k) l a, a, get_or-set_same (set words s x) (s + 1) y 0 m) e
    by_place (inr a) (inl b) =
        let m : s < length words = omega arith in
        rw (
          written_same (is_lane_on words k) s (is_bit_on x k) l b,
          get_or-set_other (set words s x) (s + 1) l y 0 a,
          b,
          get_or-set_same words s x 0 m,
        ) refl
    by_place (inr a) (inr b) =
        rw (
          written_other (is_lane_on words k) s (is_bit_on x k) l b a,
          get_or-set_other (set words s x) (s + 1) l y 0 a,
          get_or-set_other words s l x 0 b,
        ) refl

-- one step of a pass over words
pub one_gate : (first i : ℕ) (gs : List Gate) (d : Gate) (words : List ℕ) (k x y : ℕ) → i < length gs
    → first + 2 * i + 1 < length words → x ≡ bit_and (get_or words (get_or gs i d).a 0) (get_or words (get_or gs i d).b 0)
    → is_bit_on y k ≡ not (is_bit_on x k)
    → (l : ℕ) → pass (first + 2 * (i + 1)) (drop (i + 1) gs) (is_lane_on (set (set words (first + 2 * i) x) (first + 2 * i + 1) y) k) l
    ≡ pass (first + 2 * i) (drop i gs) (is_lane_on words k) l
one_gate first i gs d words k x y h room made other l =
    let n : first + 2 * (i + 1) ≡ (first + 2 * i) + 2 = omega arith in
    let here : drop i gs ≡ get_or gs i d ∷ drop (i + 1) gs = rw (drop-cons gs i d h, add-one) refl in
    let both : is_bit_on x k ≡ (is_lane_on words k (get_or gs i d).a && is_lane_on words k (get_or gs i d).b) = rw made (bit_and_is _ _ k) in
    rw (n, here) (pass_same ((first + 2 * i) + 2) (drop (i + 1) gs) _ _
    (λ m. lane_written words (first + 2 * i) k x y room other m ∙ ap (λ b. written (is_lane_on words k) (first + 2 * i) b m) both) l)

-- the slots of one more given is_bit_on
pub given_slot : (bits : ℕ → Bool) (i : ℕ) → start bits (2 + 2 * i) ≡ bits i
given_slot bits i =
    let a : (2 + 2 * i) % 2 ≡ 0 = omega arith in
    let b : (2 + 2 * i) / 2 ≡ suc i = omega arith in
    rw (a, b) refl

given_next : (bits : ℕ → Bool) (i : ℕ) → start bits (2 + 2 * i + 1) ≡ not (bits i)
given_next bits i =
    let a : (2 + 2 * i + 1) % 2 ≡ 1 = omega arith in
    let b : (2 + 2 * i + 1) / 2 ≡ suc i = omega arith in
    rw (a, b) refl

filled_at : (bits : ℕ → Bool) (v : ℕ → Bool) (i l : ℕ) (x : Bool) → x ≡ bits i → l < 2 + 2 * i + 2 → (l < 2 + 2 * i → v l ≡ start bits l)
    → (l < 2 + 2 * i) ⊎ (2 + 2 * i ≤ l) → (l ≡ 2 + 2 * i) ⊎ (l ≢ 2 + 2 * i) → written v (2 + 2 * i) x l ≡ start bits l
filled_at bits v i l x e h f (inl a) b = written_below v (2 + 2 * i) x l a ∙ f a
filled_at bits v i l x e h f (inr a) (inl b) = rw b (written_same v (2 + 2 * i) x (2 + 2 * i) refl ∙ (e ∙ sym (given_slot bits i)))
filled_at bits v i l x e h f (inr a) (inr b) =
    let c : l ≡ 2 + 2 * i + 1 = omega arith in
    rw c (written_not v (2 + 2 * i) x (2 + 2 * i + 1) refl ∙ (ap not e ∙ sym (given_next bits i)))

pub one_given : (bits : ℕ → Bool) (vals : List ℕ) (k i x y : ℕ) → 2 + 2 * i + 1 < length vals → is_bit_on x k ≡ bits i
    → is_bit_on y k ≡ not (is_bit_on x k)
    → ((l : ℕ) → l < 2 + 2 * i → is_lane_on vals k l ≡ start bits l)
    → (l : ℕ) → l < 2 + 2 * (i + 1) → is_lane_on (set (set vals (2 + 2 * i) x) (2 + 2 * i + 1) y) k l ≡ start bits l
one_given bits vals k i x y room e other before l h =
    lane_written vals (2 + 2 * i) k x y room other l
    ∙ filled_at bits (is_lane_on vals k) i l (is_bit_on x k) e (omega arith) (before l) (cases_lt l (2 + 2 * i)) (cases_eq l (2 + 2 * i))

zero_bit : (k : ℕ) → is_bit_on 0 k ≡ false
zero_bit k = let e : bit_at 0 k ≡ 0 = grind arith in rw e refl

-- the constants
pub constants : (bits : ℕ → Bool) (vals : List ℕ) (k y : ℕ) → 1 < length vals → is_bit_on y k ≡ not (is_bit_on 0 k)
    → (l : ℕ) → l < 2 → is_lane_on (set (set vals 0 0) 1 y) k l ≡ start bits l
constants bits vals k y room other zero h = lane_written vals 0 k 0 y room other 0
    ∙ (written_same (is_lane_on vals k) 0 (is_bit_on 0 k) 0 refl ∙ zero_bit k)
constants bits vals k y room other (suc zero) h = lane_written vals 0 k 0 y room other 1
    ∙ (written_not (is_lane_on vals k) 0 (is_bit_on 0 k) 1 refl ∙ ap not (zero_bit k))
constants bits vals k y room other (suc (suc l)) h = absurd (omega arith)
