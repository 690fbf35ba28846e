use Rattle.std.specs.Prelude.{All}
use Rattle.kif.specs.View.{trees_in}
use Rattle.diagnose_lint.specs.Findings.{IsTrueNote}
use Rattle.diagnose_lint.specs.Wholes.{IsWhole}
use Rattle.diagnose_lint.proofs.Notes.{AreTrue}
use Rattle.diagnose_lint.proofs.gathering.findings.Given as goal

abbrev pub invariant-loop-place : goal.invariant-loop-place
invariant-loop-place g l = AreTrue (IsWhole (trees_in l.items) l.known.whole) (All (IsTrueNote (trees_in l.items)) l.notes.items)
