-- This crate's own: what `run` promises does not rest on it.
-- Where a value lies in a window, and what is told of it then.
use Rattle.std.specs.Prelude.{ℕ, ◌≡◌, ◌⊎◌, true, false, nat_lt, pos, List}
use Rattle.statement.specs.NamedRules.{NamedRules}
use Rattle.statement.specs.Rules.{Rules, State, is_stuck}
use Rattle.statement.specs.declared.at_bound.AtBound.{AtBound}
use Rattle.statement.specs.declared.window.Window.{Window}
use Rattle.statement.specs.Within.{window_lines}
use Rattle.statement.specs.MoveValues.{values_lines}
use Rattle.statement.specs.MoveLines.{moves_with_lines}
use Rattle.statement.specs.Deepening.{deepen_lines}
use Rattle.statement.specs.Solving.{solve_lines}
use Rattle.program_searches.specs.declared.windowed.Placed.{Placed}
use Rattle.program_searches.specs.declared.windowed.Placed.TheVariants.{Below, Between, Above}
use Rattle.program_searches.specs.declared.asked_alone.Wanted.{Wanted}
use Rattle.program_searches.specs.declared.asked_alone.Wanted.TheVariants.{Whole, Within, OfEachMove, LineOfEachMove, OfEachDepth}

-- the value is the low bound or less, or between the bounds and this, or the high bound or more
abbrev pub IsPlaced : Window → ℕ → Placed → Type 0
IsPlaced w v Below = nat_lt v w.from ≡ true
IsPlaced w v (Between worth) = (nat_lt v w.from ≡ false) × (nat_lt v w.to ≡ true) × (worth ≡ pos v)
IsPlaced w v Above = (nat_lt v w.from ≡ false) × (nat_lt v w.to ≡ false)

-- the lines that are wanted of a state
abbrev pub wanted_lines : Wanted → NamedRules → ℕ → ℕ → AtBound → State → List ℕ
wanted_lines Whole g role depth at s = solve_lines g role depth at s
wanted_lines (Within w) g role depth at s = window_lines g w role depth at s
wanted_lines OfEachMove g role depth at s = values_lines g role depth at s
wanted_lines LineOfEachMove g role depth at s = moves_with_lines g role depth at s
wanted_lines OfEachDepth g role depth at s = deepen_lines g role depth at s

-- there is no turn to come: none is left, or the game has ended or is stuck
abbrev pub IsClosed : Rules → ℕ → State → Type 0
IsClosed g depth s = (depth ≡ 0) ⊎ ((g.ended s ≡ true) ⊎ (is_stuck g s ≡ true))
