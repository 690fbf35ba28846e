-- This crate's own: what `run` promises does not rest on it.
-- What a search answers, and for how many turns.
use Rattle.std.specs.Prelude.{◌≡◌, ℕ, ◌≤◌, ℤ, pos, ◌≤ℤ◌, true}
use Rattle.std.specs.Int.{int_min}
use Rattle.game.specs.Value.{Answers}
use Rattle.maximin.specs.declared.answer.SearchAnswer.{SearchAnswer}

-- x is an upper bound of the worth at this depth, and if it lasts of the worth at each greater depth, where that is less than b
pub record IsUpperBound (worth : ℕ → ℕ) (depth : ℕ) (b : ℤ) (x : SearchAnswer) : Type 0 where
  pub now : int_min (pos (worth depth)) b ≤ℤ x.worth
  pub later : x.lasts ≡ true → (d : ℕ) → depth ≤ d → int_min (pos (worth d)) b ≤ℤ x.worth

-- x answers the worth at this depth in the window (a, b), and if it lasts no worth at a greater depth is above it, but for b
pub record IsAnswer (worth : ℕ → ℕ) (depth : ℕ) (a b : ℤ) (x : SearchAnswer) : Type 0 where
  pub now : Answers (worth depth) a b x.worth
  pub later : x.lasts ≡ true → (d : ℕ) → depth ≤ d → int_min (pos (worth d)) b ≤ℤ x.worth
