use Rattle.std.proofs.Common.{◌≡◌}
use Rattle.std.specs.Prelude.{All}
use Rattle.kif.specs.View.{trees_in}
use Rattle.diagnose_lint.specs.Findings.{IsTrueNote}
use Rattle.diagnose_lint.proofs.Notes.{AreKept}
use Rattle.diagnose_lint.proofs.gathering.add_all_asked.Given as goal

abbrev pub invariant-loop-relation : goal.invariant-loop-relation
invariant-loop-relation g l = AreKept l.initial.known.whole l.known.whole (All (IsTrueNote (trees_in l.items)) l.notes.items)
