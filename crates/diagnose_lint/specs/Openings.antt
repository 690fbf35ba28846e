-- This crate's own: what `run` promises does not rest on it.
-- When it is true of a game that it stands so at the start.
use Rattle.std.specs.Prelude.{ℕ, true, false, ◌≡◌, ◌<◌, List, []}
use Rattle.std.specs.List.{All}
use Rattle.statement.specs.Clause.{Alternative}
use Rattle.statement.specs.Rules.{Rules}
use Rattle.statement.specs.NamedRules.{NamedRules}
use Rattle.statement.specs.GameOfRules.{IsGameOf}
use Rattle.diagnose_lint.specs.declared.opening_finding.Opening.{Opening}
use Rattle.diagnose_lint.specs.declared.opening_finding.Opening.TheVariants.{Ended, Idle}

-- the game has not ended at the start, and the role has no legal move there
pub record IsIdle (g : Rules) (r : ℕ) : Type 0 where
  pub role : r < g.roles
  pub goes_on : g.ended g.start ≡ false
  pub none : g.legal g.start r ≡ []

-- the game has ended at the start; or the role is idle there
abbrev pub IsTrueOpening : Rules → Opening → Type 0
IsTrueOpening g Ended = g.ended g.start ≡ true
IsTrueOpening g (Idle r) = IsIdle g r

-- each is true of the game of the rules
abbrev pub AreOpenings : List Alternative → List Opening → Type 0
AreOpenings rules found = (g : NamedRules) × IsGameOf rules g × All (IsTrueOpening g.rules) found
