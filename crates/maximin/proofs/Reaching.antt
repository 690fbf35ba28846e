-- The first move that makes sure of so much.
use Rattle.std.proofs.Common.{true, false, ◌≡◌, ℕ, ◌<◌, ◌≤◌, ◌-◌, Bool, List, [], ◌∷◌, length, zero, suc, refl, sym, ◌∙◌, arith, get_or}
use Rattle.std.proofs.lemmas.Int.{ints, clamps}
use Rattle.std.proofs.lemmas.Bool.Decides.{nat_tests}
use Rattle.std.specs.Prelude.{ℤ, pos, negsuc, ◌<ℤ◌, ◌≤ℤ◌, nat_le, ◌||◌, if◌then◌else◌, find, Option, None, slice_get}
use Rattle.std.specs.Int.Signed.{le_z}
use Rattle.statement.specs.Rules.{Rules, State, is_stuck}
use Rattle.statement.specs.declared.at_bound.AtBound.{AtBound}
use Rattle.statement.specs.Value.{worst}
use Rattle.statement.specs.Within.{first_at_least}
use Rattle.game.specs.Value.{Answers}
use Rattle.maximin.specs.Open.{IsOpen}
use Rattle.maximin.proofs.Best.{worst_at_place, find_first}
use Rattle.maximin.proofs.Windows.{le_z_true, le_z_false}

at_most_true : (x y : ℕ) → x ≤ y → nat_le x y ≡ true
at_most_true x y h = grind (arith, nat_tests)

at_most_false : (x y : ℕ) → y < x → nat_le x y ≡ false
at_most_false x y h = grind (arith, nat_tests)

-- what a window below a bound tells of it
pub reach_told : (v bound : ℕ) (a b r : ℤ) → a <ℤ b → b ≡ pos bound → Answers v a b r → le_z b r ≡ nat_le bound v
reach_told v bound a b r order e is = go (le_z b r) refl
  where
    go : (t : Bool) → le_z b r ≡ t → le_z b r ≡ nat_le bound v
    go true h =
        let top = is.at_most in
        let more : b ≤ℤ r = le_z_true b r h in
        h ∙ sym (at_most_true bound v (omega (arith, ints, clamps)))
    go false h =
        let bottom = is.at_least in
        let less : r <ℤ b = le_z_false b r h in
        h ∙ sym (at_most_false bound v (omega (arith, ints, clamps)))

none_passes : (p : ℕ → Bool) (xs : List ℕ) → ((k : ℕ) → k < length xs → p (get_or xs k 0) ≡ false) → find p xs ≡ None
none_passes p [] h = refl
none_passes p (x ∷ xs) h =
    let first : p x ≡ false = h 0 (omega arith) in
    rw first (none_passes p xs (λ k lt. h (suc k) (omega arith)))

either_false : (b c : Bool) (x y : Option ℕ) → b ≡ false → c ≡ false → (if b || c then x else y) ≡ y
either_false b c x y e f = rw (e, f) refl

-- the first move that reaches the bound
pub reached_first : (g : Rules) (role depth : ℕ) (at : AtBound) (bound : ℕ) (s : State) (chosen : ℕ) → IsOpen g depth s
    → chosen < length (g.legal s role) → nat_le bound (worst_at_place g role depth at s chosen) ≡ true
    → ((k : ℕ) → k < chosen → nat_le bound (worst_at_place g role depth at s k) ≡ false)
    → first_at_least g role depth at bound s ≡ slice_get (g.legal s role) chosen
reached_first g role zero at bound s chosen h inside here before = absurd (h.turn refl)
reached_first g role (suc depth) at bound s chosen h inside here before =
    let same : suc depth - 1 ≡ depth = omega arith in
    let reaches : nat_le bound (worst g role depth at s (get_or (g.legal s role) chosen 0)) ≡ true = rw same at here in
    let missed : (k : ℕ) → k < chosen → nat_le bound (worst g role depth at s (get_or (g.legal s role) k 0)) ≡ false = λ k lt. rw same at
    (before k lt) in
    either_false (g.ended s) (is_stuck g s) None _ h.going h.free
    ∙ find_first (λ m. nat_le bound (worst g role depth at s m)) (g.legal s role) chosen inside reaches missed

-- no move does
pub reached_never : (g : Rules) (role depth : ℕ) (at : AtBound) (bound : ℕ) (s : State) → IsOpen g depth s
    → ((k : ℕ) → k < length (g.legal s role) → nat_le bound (worst_at_place g role depth at s k) ≡ false)
    → first_at_least g role depth at bound s ≡ None
reached_never g role zero at bound s h each = absurd (h.turn refl)
reached_never g role (suc depth) at bound s h each =
    let same : suc depth - 1 ≡ depth = omega arith in
    let missed : (k : ℕ) → k < length (g.legal s role) → nat_le bound (worst g role depth at s (get_or (g.legal s role) k 0)) ≡ false =
    λ k lt. rw same at (each k lt) in
    either_false (g.ended s) (is_stuck g s) None _ h.going h.free
    ∙ none_passes (λ m. nat_le bound (worst g role depth at s m)) (g.legal s role) missed

-- in a window around all values the answer is the value
pub exact_worth : (v : ℕ) (r : ℤ) → v ≤ 100 → Answers v (negsuc 0) (pos 101) r → r ≡ pos v
exact_worth v r few is =
    let bottom = is.at_least in
    let top = is.at_most in
    omega (arith, ints, clamps)
