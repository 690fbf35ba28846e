-- This crate's own: what `run` promises does not rest on it.
-- When two games tell the same of their roles, moves and states.
use Rattle.std.specs.Prelude.{ℕ, ◌≡◌, ◌<◌, All}
use Rattle.statement.specs.NamedRules.{NamedRules}
use Rattle.statement.specs.Rules.{Rules, State, Turn, IsTurn}

-- each legal move of a role is a move of the role
abbrev pub AreLegalMoves : Rules → Type 0
AreLegalMoves g = (s : State) (r : ℕ) → r < g.roles → All (λ m. m < g.moves r) (g.legal s r)

-- the same roles and moves with the same names, the same start, and of each state the same end, goals, legal moves and
-- next states; nothing of numbers that are no roles or moves
pub record SamePlay (g h : NamedRules) : Type 0 where
  pub roles : g.rules.roles ≡ h.rules.roles
  pub moves : (r : ℕ) → r < g.rules.roles → g.rules.moves r ≡ h.rules.moves r
  pub role_names : (r : ℕ) → r < g.rules.roles → g.role_name r ≡ h.role_name r
  pub move_names : (r m : ℕ) → r < g.rules.roles → m < g.rules.moves r → g.move_name r m ≡ h.move_name r m
  pub start : g.rules.start ≡ h.rules.start
  pub ended : (s : State) → g.rules.ended s ≡ h.rules.ended s
  pub goal : (s : State) (r : ℕ) → r < g.rules.roles → g.rules.goal s r ≡ h.rules.goal s r
  pub legal : (s : State) (r : ℕ) → r < g.rules.roles → g.rules.legal s r ≡ h.rules.legal s r
  pub after : (s : State) (j : Turn) → IsTurn g.rules j → g.rules.after s j ≡ h.rules.after s j
  pub known : AreLegalMoves g.rules
