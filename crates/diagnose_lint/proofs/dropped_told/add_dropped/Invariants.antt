use Rattle.std.proofs.Common.{take}
use Rattle.kif.specs.View.{trees_in}
use Rattle.diagnose_lint.proofs.TellingLists.{IsTold}
use Rattle.diagnose_lint.proofs.dropped_told.add_dropped.Given as goal

abbrev pub invariant-loop-dropped : goal.invariant-loop-dropped
invariant-loop-dropped g l =
    IsTold l.text (trees_in l.items) l.before l.behind l.initial.output.items (take l.dropped-index l.found) l.pointer
    l.output.items
