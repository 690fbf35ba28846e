-- This crate's own: what `run` promises does not rest on it.
-- The laws of a game, at the table.
use Rattle.std.proofs.Common.{◌≡◌, ◌≢◌, ℕ, ◌-◌, ◌<◌, ◌≤◌, ◌^◌, Bool, true, false, cond, not, ◌||◌, ◌==◌, List, [], ◌∷◌, zero, suc, refl, arith}
use Rattle.std.proofs.lemmas.Grind.{common_steps}
use Rattle.std.specs.Prelude.{All, EachIndex, slice_index}
use Rattle.std.specs.List.Sorted.{IsStrictlyIncreasing}
use Rattle.std.specs.Ordering.{nat_cmp}
use Rattle.std.specs.Cmp.Lexicographic.{slice_cmp}
use Rattle.std.specs.declared.cmp.Ordering.TheVariants.{Less}
use Rattle.std.proofs.lemmas.Bool.Decides.{nat_tests}
use Rattle.test_games.specs.Table.{table_rules, side_name, choice_name, is_start}

cell_at_most : (worth : List ℕ) (k : ℕ) → EachIndex worth (λ k. slice_index worth k ≤ 100) → slice_index worth k ≤ 100
cell_at_most [] k h = grind (arith, common_steps)
cell_at_most (x ∷ xs) zero h = h 0 (omega arith)
cell_at_most (x ∷ xs) (suc k) h = cell_at_most xs k (λ i below. h (suc i) (omega arith))

-- no number of the table is above 100, so no goal is
pub goal_at_most : (worth : List ℕ) (ends : List Bool) (s : List ℕ) (r : ℕ) → EachIndex worth (λ k. slice_index worth k ≤ 100)
    → (table_rules worth ends).goal s r ≤ 100
goal_at_most worth ends s r h =
    let at = cell_at_most worth (slice_index s 0 - 1) h in grind (arith, nat_tests)

both_within : All (λ m. m < 2) (0 ∷ 1 ∷ [])
both_within zero d h = omega arith
both_within (suc zero) d h = omega arith
both_within (suc (suc k)) d h = omega arith

none_within : All (λ m. m < 2) []
none_within k d h = omega arith

both_ascending : IsStrictlyIncreasing (0 ∷ 1 ∷ [])
both_ascending zero h = omega arith
both_ascending (suc k) h = omega arith

none_ascending : IsStrictlyIncreasing []
none_ascending k h = omega arith

-- the law holds of both lists of legal moves, and so of the one that is chosen
either_list : (P : List ℕ → Type 0) (b : Bool) → P (0 ∷ 1 ∷ []) → P [] → P (cond b (0 ∷ 1 ∷ []) [])
either_list P true both none = both
either_list P false both none = none

pub legal_at_most : (worth : List ℕ) (ends : List Bool) (s : List ℕ) (r : ℕ) → All (λ m. m < 2) ((table_rules worth ends).legal s r)
legal_at_most worth ends s r = either_list (All (λ m. m < 2)) (is_start s || not (r == 2)) both_within none_within

pub legal_in_order : (worth : List ℕ) (ends : List Bool) (s : List ℕ) (r : ℕ) → IsStrictlyIncreasing ((table_rules worth ends).legal s r)
legal_in_order worth ends s r = either_list IsStrictlyIncreasing (is_start s || not (r == 2)) both_ascending none_ascending

pub two_moves : 2 ≤ 2 ^ 32
two_moves = omega arith

pub choices_in_order : (m n : ℕ) → m < n → n < 2 → slice_cmp nat_cmp (choice_name m) (choice_name n) ≡ Less
choices_in_order zero zero less below = absurd (omega arith)
choices_in_order zero (suc n) less below = refl
choices_in_order (suc m) n less below = absurd (omega arith)

pub sides_differ : (q r : ℕ) → q < r → r < 3 → side_name q ≢ side_name r
sides_differ zero zero less below = absurd (omega arith)
sides_differ zero (suc zero) less below = λ same. cc
sides_differ zero (suc (suc r)) less below = λ same. cc
sides_differ (suc zero) zero less below = absurd (omega arith)
sides_differ (suc zero) (suc zero) less below = absurd (omega arith)
sides_differ (suc zero) (suc (suc r)) less below = λ same. cc
sides_differ (suc (suc q)) r less below = absurd (omega arith)
