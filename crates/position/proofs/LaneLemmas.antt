-- What words of lanes tell of many states.
use Rattle.std.proofs.Common.{◌≡◌, ℕ, ◌+◌, ◌<◌, Bool, true, false, cond, ◌||◌, List, [], ◌∷◌, ◌++◌, length, take, refl, sym, ap, ◌∙◌, arith, max, zero, suc, Some, None}
use Rattle.std.specs.Prelude.{◌==◌}
use Rattle.std.specs.Int.{bit_at}
use Rattle.std.specs.Int.Bits.{bit_or}
use Rattle.std.proofs.Math.ListN.{set}
use Rattle.std.proofs.lemmas.List.{append-nil, take-set, take_more_set}
use Rattle.std.proofs.lemmas.Nat.Bits.{bit_at_or, bit_at-lt}

either_bit : (a b : ℕ) → a < 2 → b < 2 → (max a b == 1) ≡ ((a == 1) || (b == 1))
either_bit zero zero la lb = refl
either_bit zero (suc zero) la lb = refl
either_bit (suc zero) zero la lb = refl
either_bit (suc zero) (suc zero) la lb = refl
either_bit (suc (suc a)) b la lb = absurd (omega arith)
either_bit zero (suc (suc b)) la lb = absurd (omega arith)
either_bit (suc zero) (suc (suc b)) la lb = absurd (omega arith)

pub either_on : (a b k : ℕ) → (bit_at (bit_or a b) k == 1) ≡ ((bit_at a k == 1) || (bit_at b k == 1))
either_on a b k = ap (λ (v : ℕ). v == 1) (bit_at_or a b k) ∙ either_bit (bit_at a k) (bit_at b k) (bit_at-lt a k) (bit_at-lt b k)

pub put_behind : (b : Bool) (xs : List ℕ) (count x : ℕ) → count < length xs → take (count + cond b 1 0) (set xs count x) ≡ take count xs ++ cond b
    (x ∷ []) []
put_behind true xs count x lt = take_more_set xs count x lt
put_behind false xs count x lt =
    let e : count + 0 ≡ count = omega arith in
    ap (λ (n : ℕ). take n (set xs count x)) e ∙ take-set xs count x ∙ sym (append-nil (take count xs))

-- a test as a number
pub bit_of : (f : Bool → ℕ) → f true ≡ 1 → f false ≡ 0 → (b : Bool) → f b ≡ cond b 1 0
bit_of f one none true = one
bit_of f one none false = none

-- the worth of an end, by whether there is one

pub worth_ended : (b : Bool) (v x : ℕ) → b ≡ true → v ≡ x → Some v ≡ cond b (Some x) None
worth_ended true v x e same = ap Some same
worth_ended false v x e same = absurd cc

pub worth_open : (b : Bool) (x : ℕ) → b ≡ false → None ≡ cond b (Some x) None
worth_open true x e = absurd cc
worth_open false x e = refl

pub told_ended : (b : Bool) (v x : ℕ) → Some v ≡ cond b (Some x) None → (b ≡ true) × (v ≡ x)
told_ended true v x e = (refl, cc)
told_ended false v x e = absurd cc

pub told_open : (b : Bool) (x : ℕ) → None ≡ cond b (Some x) None → b ≡ false
told_open true x e = absurd cc
told_open false x e = refl
