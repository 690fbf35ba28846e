-- What is told of the moves of a state, with a turn to come and without.
use Rattle.std.proofs.Common.{ℕ, zero, suc, ◌≡◌, ◌-◌, ◌<◌, inl, inr, Bool, true, false, List, length, get_or, refl, ◌∙◌, arith}
use Rattle.std.specs.Prelude.{◌||◌, if◌then◌else◌, Contains}
use Rattle.std.specs.List.{flat_map}
use Rattle.statement.specs.declared.at_bound.AtBound.{AtBound}
use Rattle.statement.specs.NamedRules.{NamedRules}
use Rattle.statement.specs.Rules.{State, is_stuck}
use Rattle.statement.specs.Solving.{solve_lines}
use Rattle.statement.specs.MoveValues.{worth_line, values_lines}
use Rattle.statement.specs.MoveLines.{move_lines, moves_with_lines}
use Rattle.game.proofs.Facts.{get_or_any}
use Rattle.maximin.specs.Open.{IsOpen}
use Rattle.program_searches.specs.Windows.{IsClosed}

either_false : (b c : Bool) (x y : List ℕ) → b ≡ false → c ≡ false → (if b || c then x else y) ≡ y
either_false b c x y e f = rw (e, f) refl

first_true : (b c : Bool) (x y : List ℕ) → b ≡ true → (if b || c then x else y) ≡ x
first_true b c x y e = rw e refl

second_true : (b c : Bool) (x y : List ℕ) → c ≡ true → (if b || c then x else y) ≡ x
second_true true c x y e = refl
second_true false c x y e = rw e refl

pub values_open : (g : NamedRules) (role depth : ℕ) (at : AtBound) (s : State) → IsOpen g.rules depth s
    → values_lines g role depth at s ≡ flat_map (worth_line g role (depth - 1) at s) (g.rules.legal s role)
values_open g role zero at s h = absurd (h.turn refl)
values_open g role (suc depth) at s h =
    let same : suc depth - 1 ≡ depth = omega arith in
    rw same (either_false (g.rules.ended s) (is_stuck g.rules s) _ _ h.going h.free)

pub values_closed : (g : NamedRules) (role depth : ℕ) (at : AtBound) (s : State) → IsClosed g.rules depth s
    → values_lines g role depth at s ≡ solve_lines g role depth at s
values_closed g role zero at s h = refl
values_closed g role (suc depth) at s (inl e) = absurd (omega arith)
values_closed g role (suc depth) at s (inr (inl e)) = first_true (g.rules.ended s) (is_stuck g.rules s) _ _ e
values_closed g role (suc depth) at s (inr (inr e)) = second_true (g.rules.ended s) (is_stuck g.rules s) _ _ e

pub lines_open : (g : NamedRules) (role depth : ℕ) (at : AtBound) (s : State) → IsOpen g.rules depth s
    → moves_with_lines g role depth at s ≡ flat_map (move_lines g role (depth - 1) at s) (g.rules.legal s role)
lines_open g role zero at s h = absurd (h.turn refl)
lines_open g role (suc depth) at s h =
    let same : suc depth - 1 ≡ depth = omega arith in
    rw same (either_false (g.rules.ended s) (is_stuck g.rules s) _ _ h.going h.free)

pub lines_closed : (g : NamedRules) (role depth : ℕ) (at : AtBound) (s : State) → IsClosed g.rules depth s
    → moves_with_lines g role depth at s ≡ solve_lines g role depth at s
lines_closed g role zero at s h = refl
lines_closed g role (suc depth) at s (inl e) = absurd (omega arith)
lines_closed g role (suc depth) at s (inr (inl e)) = first_true (g.rules.ended s) (is_stuck g.rules s) _ _ e
lines_closed g role (suc depth) at s (inr (inr e)) = second_true (g.rules.ended s) (is_stuck g.rules s) _ _ e

-- a move at a place is among the moves
pub among_moves : (xs : List ℕ) (place own : ℕ) → place < length xs → get_or xs place 0 ≡ own → Contains xs own
among_moves xs place own lt here = (place, lt, get_or_any xs place own 0 lt ∙ here)
