use Rattle.std.proofs.Common.{◌≡◌, ℕ, ◌-◌, ◌<◌, ◌≤◌, true, false, List, [], length, zero, suc, refl, ◌∙◌, arith, get_or, inl, inr}
use Rattle.std.specs.Prelude.{All, map, if◌then◌else◌}
use Rattle.statement.specs.AtBound.{bound_worth}
use Rattle.std.proofs.lemmas.Grind.{common_steps}
use Rattle.std.proofs.lemmas.List.{get_or-map}
use Rattle.std.proofs.lemmas.Bool.{cases_eq}
use Rattle.statement.specs.Rules.{Rules, State, Turn, is_stuck, choices, IsTurn}
use Rattle.statement.specs.declared.at_bound.AtBound.{AtBound}
use Rattle.statement.specs.Value.{value, worst, greatest}
use Rattle.maximin.specs.Open.{IsOpen}
use Rattle.maximin.specs.Turns.{StandsAt}
use Rattle.maximin.proofs.Windows.{le_greatest, greatest_reached}
use Rattle.maximin.proofs.Choices.{length-choices, choices_own, choices_other, legal_some}

-- the worst of each own move
abbrev pub worsts : Rules → ℕ → ℕ → AtBound → State → List ℕ
worsts g role depth at s = map (λ m. worst g role (depth - 1) at s m) (g.legal s role)

pub value_open : (g : Rules) (role depth : ℕ) (at : AtBound) (s : State) → IsOpen g depth s
    → value g role depth at s ≡ greatest (worsts g role depth at s)
value_open g role zero at s h = absurd (h.turn refl)
value_open g role (suc depth) at s h =
    let same : suc depth - 1 ≡ depth = omega arith in
    rw (same, h.going, h.free) refl

pub value_ended : (g : Rules) (role depth : ℕ) (at : AtBound) (s : State) → g.ended s ≡ true → value g role depth at s ≡ g.goal s role
value_ended g role zero at s h = rw h refl
value_ended g role (suc depth) at s h = rw h refl

pub value_stuck : (g : Rules) (role depth : ℕ) (at : AtBound) (s : State) → g.ended s ≡ false → is_stuck g s ≡ true → value g role depth at s ≡ 0
value_stuck g role zero at s going stuck = rw (going, stuck) refl
value_stuck g role (suc depth) at s going stuck = rw (going, stuck) refl

-- where no turn is left
pub value_at_bound : (g : Rules) (role depth : ℕ) (at : AtBound) (s : State) → depth ≡ 0 → g.ended s ≡ false
    → value g role depth at s ≡ (if is_stuck g s then 0 else bound_worth at (g.goal s role))
value_at_bound g role zero at s none going = rw going refl
value_at_bound g role (suc depth) at s none going = absurd (omega arith)

length-map-all : (f : ℕ → ℕ) (xs : List ℕ) → length (map f xs) ≡ length xs
length-map-all f xs = grind (arith, common_steps)

pub worst_le_value : (g : Rules) (role depth : ℕ) (at : AtBound) (s : State) (k : ℕ) → IsOpen g depth s → k < length (g.legal s role)
    → worst g role (depth - 1) at s (get_or (g.legal s role) k 0) ≤ value g role depth at s
worst_le_value g role depth at s k h inside =
    let below = le_greatest (worsts g role depth at s) k (omega (arith, length-map-all (λ m. worst g role (depth - 1) at s m) (g.legal s role))) in
    rw (value_open g role depth at s h) (rw (get_or-map (λ m. worst g role (depth - 1) at s m) (g.legal s role) k 0 0 inside) at below)

pub value_reached : (g : Rules) (role depth : ℕ) (at : AtBound) (s : State) → IsOpen g depth s → role < g.roles
    → (k : ℕ) × (k < length (g.legal s role)) × (worst g role (depth - 1) at s (get_or (g.legal s role) k 0) ≡ value g role depth at s)
value_reached g role depth at s h known =
    let count = length-map-all (λ m. worst g role (depth - 1) at s m) (g.legal s role) in
    let some : 0 < length (g.legal s role) = legal_some g s role h.free known in
    let top = greatest_reached (worsts g role depth at s) (omega arith) in
    let inside : top.0 < length (g.legal s role) = omega (arith, top.1) in (
      top.0,
      inside,
      rw (value_open g role depth at s h)
          (rw (get_or-map (λ m. worst g role (depth - 1) at s m) (g.legal s role) top.0 0 0 inside) at top.2),
    )

-- a cursor's joint move is a move of each role
pub turn_known : (g : Rules) (s : State) (role own : ℕ) (places : List ℕ) (joint : Turn) → StandsAt (choices g s role own) places joint
    → own < g.moves role → ((q : ℕ) → q < g.roles → All (λ m. m < g.moves q) (g.legal s q)) → IsTurn g joint
turn_known g s role own places joint h known within = record {
  of_each_role = h.move_for_each ∙ length-choices g s role own;
  each_known = λ q below.
      let count = length-choices g s role own in
      let at = h.at_place q (omega arith) in
      let inside = h.in_list q (omega arith) in
      rw at (either q below (get_or places q 0) inside);
}
  where
    either : (q : ℕ) → q < g.roles → (k : ℕ) → k < length (get_or (choices g s role own) q [])
        → get_or (get_or (choices g s role own) q []) k 0 < g.moves q
    either q below k inside = elim (cases_eq q role) [
      | inl same ↦
          let list = choices_own g s role own q below same in
          let first : k ≡ 0 = omega (arith, rw list at inside) in
          rw (list, first, same) known
      | inr other ↦
          let list = choices_other g s role own q below other in
          rw list (within q below k 0 (rw list at inside))
    ]
