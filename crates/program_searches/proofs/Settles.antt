-- A value is settled where it is no more than nothing for unfinished play makes it, and no less than 100 does.
use Rattle.std.proofs.Common.{ℕ, suc, refl, sym, ◌∙◌, ◌≡◌, ◌≤◌, Bool, true, false, arith}
use Rattle.std.proofs.Common.{w16}
use Rattle.std.proofs.lemmas.Int.{ints, clamps}
use mir.Val.{SFits}
use Rattle.std.proofs.lemmas.Bool.Decides.{nat_tests}
use Rattle.std.specs.Prelude.{ℤ, pos, ◌-ℤ◌, ◌+ℤ◌, ◌≤ℤ◌, ◌<ℤ◌, ◌==◌, nat_le}
use Rattle.std.specs.Int.Signed.{le_z}
use Rattle.program_searches.proofs.Placing.{at_most_z, above_z}
use Rattle.game.specs.Value.{Answers}
use Rattle.maximin.specs.Tools.{IsWindow}

pub not_settled : (low v high : ℕ) → low ≤ v → v ≤ high → nat_le v low ≡ false → (low == high) ≡ false
not_settled low v high below above h = grind (arith, nat_tests)

-- the value is that with nothing
settles_yes : (low v high : ℕ) → low ≤ v → v ≤ high → nat_le v low ≡ true → nat_le high v ≡ true → (low == high) ≡ true
settles_yes low v high below above h k = grind (arith, nat_tests)

settles_no : (low v high : ℕ) → low ≤ v → v ≤ high → nat_le v low ≡ true → nat_le high v ≡ false → (low == high) ≡ false
settles_no low v high below above h k = grind (arith, nat_tests)

pub settles : (low v high : ℕ) → low ≤ v → v ≤ high → nat_le v low ≡ true → nat_le high v ≡ (low == high)
settles low v high below above h = either (nat_le high v) refl
  where
    either : (b : Bool) → nat_le high v ≡ b → nat_le high v ≡ (low == high)
    either true e = rw (e, settles_yes low v high below above h e) refl
    either false e = rw (e, settles_no low v high below above h e) refl

le_true : (m n : ℕ) → m ≤ n → nat_le m n ≡ true
le_true m n h = grind (arith, nat_tests)

le_false : (m n : ℕ) → suc n ≤ m → nat_le m n ≡ false
le_false m n h = grind (arith, nat_tests)

-- the answer of a search just below the value
pub sure_yes : (v low : ℕ) (a b r : ℤ) → b ≡ pos v → a ≡ pos v -ℤ pos 1 → Answers low a b r → b ≤ℤ r → nat_le v low ≡ true
sure_yes v low a b r same less is more = le_true v low (let top = is.at_most in omega (arith, ints, clamps))

pub sure_no : (v low : ℕ) (a b r : ℤ) → b ≡ pos v → a ≡ pos v -ℤ pos 1 → Answers low a b r → r <ℤ b → nat_le v low ≡ false
sure_no v low a b r same less is below = le_false v low (let bottom = is.at_least in omega (arith, ints, clamps))

-- and just above it
pub most_yes : (v high : ℕ) (a b r : ℤ) → a ≡ pos v → b ≡ pos v +ℤ pos 1 → Answers high a b r → r ≤ℤ a → nat_le high v ≡ true
most_yes v high a b r same more is below = le_true high v (let bottom = is.at_least in omega (arith, ints, clamps))

pub most_no : (v high : ℕ) (a b r : ℤ) → a ≡ pos v → b ≡ pos v +ℤ pos 1 → Answers high a b r → a <ℤ r → nat_le high v ≡ false
most_no v high a b r same more is above = le_false high v (let top = is.at_most in omega (arith, ints, clamps))

pub window_below : (v : ℕ) (a b : ℤ) → v ≤ 100 → b ≡ pos v → a ≡ pos v -ℤ pos 1 → IsWindow a b
window_below v a b few same less = record { low = omega (arith, ints); order = omega (arith, ints); high = omega (arith, ints) }

pub window_above : (v : ℕ) (a b : ℤ) → v ≤ 100 → a ≡ pos v → b ≡ pos v +ℤ pos 1 → IsWindow a b
window_above v a b few same more = record { low = omega (arith, ints); order = omega (arith, ints); high = omega (arith, ints) }

-- what the answers tell
pub sure_is : (v low : ℕ) (a b r : ℤ) → b ≡ pos v → a ≡ pos v -ℤ pos 1 → Answers low a b r → le_z b r ≡ nat_le v low
sure_is v low a b r same less is = either (le_z b r) refl
  where
    either : (t : Bool) → le_z b r ≡ t → le_z b r ≡ nat_le v low
    either true e = e ∙ sym (sure_yes v low a b r same less is (at_most_z b r e))
    either false e = e ∙ sym (sure_no v low a b r same less is (above_z b r e))

pub most_is : (v high : ℕ) (a b r : ℤ) → a ≡ pos v → b ≡ pos v +ℤ pos 1 → Answers high a b r → le_z r a ≡ nat_le high v
most_is v high a b r same more is = either (le_z r a) refl
  where
    either : (t : Bool) → le_z r a ≡ t → le_z r a ≡ nat_le high v
    either true e = e ∙ sym (most_yes v high a b r same more is (at_most_z r a e))
    either false e = e ∙ sym (most_no v high a b r same more is (above_z r a e))

pub le_itself : (n : ℕ) → nat_le n n ≡ true
le_itself n = grind (arith, nat_tests)

-- the numbers beside a value, as they are kept
pub fits_below : (v : ℕ) (z : ℤ) → v ≤ 100 → z ≡ pos v → SFits w16 (z -ℤ pos 1)
fits_below v z few e = omega (arith, ints)

pub fits_above : (v : ℕ) (z : ℤ) → v ≤ 100 → z ≡ pos v → SFits w16 (z +ℤ pos 1)
fits_above v z few e = omega (arith, ints)
