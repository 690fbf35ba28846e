use Rattle.std.specs.Prelude.{All}
use Rattle.kif.specs.View.{trees_in}
use Rattle.diagnose_lint.specs.Findings.{IsTrueNote}
use Rattle.diagnose_lint.proofs.gathering.add_missing.Given as goal

abbrev pub invariant-loop-word : goal.invariant-loop-word
invariant-loop-word g l = All (IsTrueNote (trees_in l.items)) l.notes.items
