-- This crate's own: what `run` promises does not rest on it.
-- The first best of the moves of a role.
use Rattle.std.specs.Prelude.{ℕ, ℤ, pos, negsuc, ◌≡◌, ◌+◌, ◌<◌, ◌≤◌, ◌<ℤ◌, ◌≤ℤ◌, List, [], get_or, length}
use Rattle.statement.specs.Rules.{Rules, State, Turn}
use Rattle.statement.specs.declared.at_bound.AtBound.{AtBound}
use Rattle.statement.specs.Value.{value, worst}
use Rattle.game.specs.declared.question.Question.{Question}
use Rattle.maximin.specs.declared.choosing.Best.{Best}

-- the best of the moves before `place` stands at `chosen`, and is better than each move before it
pub record IsBest (worth : ℕ → ℕ) (place : ℕ) (best : ℤ) (chosen : ℕ) : Type 0 where
  pub seen : (k : ℕ) → k < place → pos (worth k) ≤ℤ best
  pub reached : 0 < place → pos (worth chosen) ≡ best
  pub before : 0 < place → chosen < place
  pub first : (k : ℕ) → k < chosen → pos (worth k) <ℤ best
  pub none : place ≡ 0 → best ≡ negsuc 0
  pub low : negsuc 0 ≤ℤ best
  pub high : best <ℤ pos 101

-- what the move of `role` at a place of its list is worth, where so many turns are to come behind it
abbrev pub own_worth : Rules → ℕ → ℕ → AtBound → State → ℕ → ℕ
own_worth g role depth at s k = worst g role depth at s (get_or (g.legal s role) k 0)

-- the first so many moves were seen, and this is the best of them
pub record IsBestOf (worth : ℕ → ℕ) (count : ℕ) (b : Best) : Type 0 where
  pub seen : b.seen ≡ count
  pub best : IsBest worth count b.worth b.place

-- the joint moves are those of the role's moves that come next
pub record AreNextMoves (g : Rules) (asked : Question) (s : State) (seen : ℕ) (turns : List Turn) : Type 0 where
  pub few : seen + length turns ≤ length (g.legal s asked.role)
  pub worths : (k : ℕ) → k < length turns → value g asked.role asked.depth asked.at (g.after s (get_or turns k []))
      ≡ own_worth g asked.role asked.depth asked.at s (seen + k)
