use Rattle.std.specs.List.{All}
use Rattle.diagnose_lint.specs.Openings.{IsTrueOpening}
use Rattle.diagnose_lint.proofs.opening_finding.add_idle.Given as goal

abbrev pub invariant-loop-role : goal.invariant-loop-role
invariant-loop-role g l = All (IsTrueOpening (g.G.Game.rules l.game)) l.found.items
