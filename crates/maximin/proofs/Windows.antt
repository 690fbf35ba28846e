use Rattle.std.proofs.Common.{true, false, ◌≡◌, ℕ, ◌<◌, ◌≤◌, List, [], ◌∷◌, length, zero, suc, ◌∙◌, arith, get_or, inl, inr}
use Rattle.std.proofs.lemmas.Int.{ints, clamps}
use Rattle.std.specs.Prelude.{ℤ, pos, ◌<ℤ◌, ◌≤ℤ◌, min}
use Rattle.std.proofs.lemmas.Bool.{cases_lt}
use Rattle.std.specs.Int.{int_min, int_max}
use Rattle.std.specs.Int.Signed.{le_z, lt_z}
use Rattle.game.specs.Value.{Answers}
use Rattle.statement.specs.Value.{least, greatest}

-- an own move whose worst is w, in all moves that are worth v, raises the lower bound
pub raised_most : (v w : ℕ) (a b best r : ℤ) → w ≤ v → best ≤ℤ int_max (pos v) a → Answers w best b r → int_max best r ≤ℤ int_max (pos v) a
raised_most v w a b best r part most h = let top = h.at_most in omega (arith, ints, clamps)

pub raised_seen : (w : ℕ) (b best r : ℤ) → int_min (pos w) b ≤ℤ best → int_min (pos w) b ≤ℤ int_max best r
raised_seen w b best r h = omega (arith, ints, clamps)

pub raised_now : (w : ℕ) (b best r : ℤ) → Answers w best b r → int_min (pos w) b ≤ℤ int_max best r
raised_now w b best r h = let bottom = h.at_least in omega (arith, ints, clamps)

pub raised_above : (a best r : ℤ) → a ≤ℤ best → a ≤ℤ int_max best r
raised_above a best r h = omega (arith, ints, clamps)

-- no further move is needed
pub cut_above : (v : ℕ) (a b best : ℤ) → b ≤ℤ best → best ≤ℤ int_max (pos v) a → Answers v a b best
cut_above v a b best cut most = record { at_least = omega (arith, ints, clamps); at_most = most }

-- the reply that is worth x, of replies that are worth `part` at least, lowers the upper bound
pub lowered_least : (all here : ℕ) (a b upper r : ℤ) → all ≤ here → int_min (pos all) b ≤ℤ upper → upper ≤ℤ b → Answers here a upper r
    → int_min (pos all) b ≤ℤ int_min upper r
lowered_least all here a b upper r part h below x = let bottom = x.at_least in omega (arith, ints, clamps)

pub lowered_most : (all here left : ℕ) (a upper r : ℤ) → int_min upper (pos (min here left)) ≤ℤ int_max (pos all) a → Answers here a upper r
    → int_min (int_min upper r) (pos left) ≤ℤ int_max (pos all) a
lowered_most all here left a upper r h x = let top = x.at_most in omega (arith, ints, clamps)

pub lowered_end : (all here : ℕ) (a upper r : ℤ) → int_min upper (pos here) ≤ℤ int_max (pos all) a → Answers here a upper r
    → int_min upper r ≤ℤ int_max (pos all) a
lowered_end all here a upper r h x = let top = x.at_most in omega (arith, ints, clamps)

-- no state so far is worth less than the upper bound, unless that is a or less
pub lowered_seen : (w : ℕ) (a upper r : ℤ) → upper ≤ℤ int_max (pos w) a → int_min upper r ≤ℤ int_max (pos w) a
lowered_seen w a upper r h = omega (arith, ints, clamps)

pub lowered_now : (w : ℕ) (a upper r : ℤ) → Answers w a upper r → int_min upper r ≤ℤ int_max (pos w) a
lowered_now w a upper r h = let top = h.at_most in omega (arith, ints, clamps)

-- the value itself answers in each window
pub exact : (v : ℕ) (a b r : ℤ) → r ≡ pos v → Answers v a b r
exact v a b r same = record { at_least = omega (arith, ints, clamps); at_most = omega (arith, ints, clamps) }

pub cut_below : (v : ℕ) (a b upper : ℤ) → upper ≤ℤ a → int_min (pos v) b ≤ℤ upper → Answers v a b upper
cut_below v a b upper cut low = record { at_least = low; at_most = omega (arith, ints, clamps) }

-- the greatest number of a list stands in it, and none is above it
pub le_greatest : (xs : List ℕ) (k : ℕ) → k < length xs → get_or xs k 0 ≤ greatest xs
le_greatest [] k h = absurd (omega arith)
le_greatest (x ∷ xs) zero h = omega arith
le_greatest (x ∷ xs) (suc k) h = let below = le_greatest xs k (omega arith) in omega arith

pub greatest_reached : (xs : List ℕ) → 0 < length xs → (k : ℕ) × (k < length xs) × (get_or xs k 0 ≡ greatest xs)
greatest_reached [] h = absurd (omega arith)
greatest_reached (x ∷ []) h = (0, omega arith, omega arith)
greatest_reached (x ∷ y ∷ ys) h =
    let rest : (k : ℕ) × (k < length (y ∷ ys)) × (get_or (y ∷ ys) k 0 ≡ greatest (y ∷ ys)) = greatest_reached (y ∷ ys) (omega arith) in
    elim (cases_lt (greatest (y ∷ ys)) x) [
      | inl less ↦ (0, omega arith, omega arith)
      | inr more ↦ (suc rest.0, omega (arith, rest.1), rest.2 ∙ omega arith)
    ]

-- the least of a list is at most each of its parts
pub least_head : (x : ℕ) (xs : List ℕ) → least (x ∷ xs) ≤ x
least_head x [] = omega arith
least_head x (y ∷ ys) = omega arith

-- what a test on signed numbers says
pub le_z_true : (a b : ℤ) → le_z a b ≡ true → a ≤ℤ b
le_z_true a b h = grind (arith, ints)

pub le_z_false : (a b : ℤ) → le_z a b ≡ false → b <ℤ a
le_z_false a b h = grind (arith, ints)

pub start_least : (all : ℕ) (b : ℤ) → int_min (pos all) b ≤ℤ b
start_least all b = omega (arith, ints, clamps)

pub start_most : (all left : ℕ) (a b : ℤ) → all ≡ left → int_min b (pos left) ≤ℤ int_max (pos all) a
start_most all left a b same = omega (arith, ints, clamps)

pub lowered_below : (b upper r : ℤ) → upper ≤ℤ b → int_min upper r ≤ℤ b
lowered_below b upper r h = omega (arith, ints, clamps)

pub lt_z_true : (a b : ℤ) → lt_z a b ≡ true → a <ℤ b
lt_z_true a b h = grind (arith, ints)

pub lt_z_false : (a b : ℤ) → lt_z a b ≡ false → b ≤ℤ a
lt_z_false a b h = grind (arith, ints)
