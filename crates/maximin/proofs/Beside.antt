-- What is found in windows beside a value that is known.
use Rattle.std.proofs.Common.{◌≡◌, ℕ, ◌<◌, ◌≤◌, List, ◌∷◌, refl, ◌∙◌, ap, arith, w16}
use Rattle.std.proofs.lemmas.Int.{ints, clamps, to_z-of_z}
use mir.Val.{SFits, of_z, to_z}
use Rattle.std.specs.Prelude.{ℤ, pos, negsuc, ◌+ℤ◌, ◌-ℤ◌, ◌<ℤ◌, ◌≤ℤ◌, ◌==◌, min, map, Some}
use Rattle.std.specs.Int.{int_min, int_max}
use Rattle.statement.specs.Rules.{Turn}
use Rattle.game.specs.Value.{Answers}
use Rattle.maximin.specs.Tools.{IsWindow}
use Rattle.maximin.proofs.Reply.{least_worth, first_least, find_here, find_behind, test_true, test_false, least_part}

-- a part of the window is enough where no value is outside of it
pub within_goals : (v : ℕ) (a b low high r : ℤ) → v ≤ 100 → low ≡ int_max a (pos 0) → high ≡ int_min b (pos 100) → Answers v low high r
    → Answers v a b r
within_goals v a b low high r few l h is =
    let bottom = is.at_least in
    let top = is.at_most in
    record { at_least = omega (arith, ints, clamps); at_most = omega (arith, ints, clamps) }

-- where no value is inside, the upper end answers
pub outside_goals : (v : ℕ) (a b low high : ℤ) → v ≤ 100 → low ≡ int_max a (pos 0) → high ≡ int_min b (pos 100) → high ≤ℤ low → Answers v a b high
outside_goals v a b low high few l h closed = record { at_least = omega (arith, ints, clamps); at_most = omega (arith, ints, clamps) }

-- and that part is a window
pub goals_window : (a b low high : ℤ) → low ≡ int_max a (pos 0) → high ≡ int_min b (pos 100) → low <ℤ high → IsWindow low high
goals_window a b low high l h less = record { low = omega (arith, ints, clamps); order = less; high = omega (arith, ints, clamps) }

-- the numbers beside a value, as they are kept
pub fits_above : (v : ℕ) (z : ℤ) → v ≤ 100 → z ≡ pos v → SFits w16 (z +ℤ pos 1)
fits_above v z few e = omega (arith, ints)

fits_below : (v : ℕ) (z : ℤ) → v ≤ 100 → z ≡ pos v → SFits w16 (z -ℤ pos 1)
fits_below v z few e = omega (arith, ints)

pub more_above : (v : ℕ) (z : ℤ) → v ≤ 100 → z ≡ pos v → z <ℤ to_z w16 (of_z w16 (z +ℤ pos 1))
more_above v z few e = rw (to_z-of_z w16 (z +ℤ pos 1) (fits_above v z few e)) (omega (arith, ints))

pub less_below : (v : ℕ) (z : ℤ) → v ≤ 100 → z ≡ pos v → to_z w16 (of_z w16 (z -ℤ pos 1)) <ℤ z
less_below v z few e = rw (to_z-of_z w16 (z -ℤ pos 1) (fits_below v z few e)) (omega (arith, ints))

pub low_below : (v : ℕ) (z : ℤ) → v ≤ 100 → z ≡ pos v → negsuc 1 ≤ℤ to_z w16 (of_z w16 (z -ℤ pos 1))
low_below v z few e = rw (to_z-of_z w16 (z -ℤ pos 1) (fits_below v z few e)) (omega (arith, ints))

-- a move that is worth w, in a state that is worth v, in a window of v alone
pub attained : (v w : ℕ) (a b r : ℤ) → w ≤ v → a <ℤ b → b ≡ pos v → Answers w a b r → b ≤ℤ r → w ≡ v
attained v w a b r part below e is = let top = is.at_most in omega (arith, ints, clamps)

pub missed : (v w : ℕ) (a b r : ℤ) → b ≡ pos v → Answers w a b r → r <ℤ b → w < v
missed v w a b r e is less = let bottom = is.at_least in omega (arith, ints, clamps)

-- a reply that is worth w, of replies of which the least is worth v, in a window of v alone
pub kept_to : (v w : ℕ) (a b r : ℤ) → a <ℤ b → a ≡ pos v → Answers w a b r → r ≤ℤ a → w ≤ v
kept_to v w a b r above e is less = let bottom = is.at_least in omega (arith, ints, clamps)

pub passed : (v w : ℕ) (a b r : ℤ) → a ≡ pos v → Answers w a b r → a <ℤ r → v < w
passed v w a b r e is more = let top = is.at_most in omega (arith, ints, clamps)

-- the least worth of all turns is that of what is left, and the first that has it is the first of what is left
pub record IsAhead (worth : Turn → ℕ) (turns : List Turn) (all : ℕ) (left : List Turn) : Type 0 where
  pub reached : least_worth worth left ≡ all
  pub ahead : first_least worth all turns ≡ first_least worth all left

-- a turn that is worth more stands before it
pub ahead_next : (worth : Turn → ℕ) (turns : List Turn) (all : ℕ) (joint next : Turn) (behind rest : List Turn) → behind ≡ next ∷ rest
    → all < worth joint
    → IsAhead worth turns all (joint ∷ behind) → IsAhead worth turns all (next ∷ rest)
ahead_next worth turns all joint next behind rest e more h =
    let both : least_worth worth (joint ∷ behind) ≡ min (worth joint) (least_worth worth (next ∷ rest)) = rw e refl in
    let reached = h.reached in
    record {
      reached = omega arith;
      ahead = h.ahead ∙ find_behind (λ j. worth j == all) joint behind (test_false (worth joint) all (λ same. omega arith))
          ∙ ap (first_least worth all) e;
    }

-- a turn that is worth no more is the one
pub ahead_found : (worth : Turn → ℕ) (turns : List Turn) (all : ℕ) (joint : Turn) (behind : List Turn) → worth joint ≤ all
    → IsAhead worth turns all (joint ∷ behind)
    → first_least worth all turns ≡ Some joint
ahead_found worth turns all joint behind less h =
    let reached = h.reached in
    let part = least_part (worth joint) (map worth behind) in
    h.ahead ∙ find_here (λ j. worth j == all) joint behind (test_true (worth joint) all (omega arith))
