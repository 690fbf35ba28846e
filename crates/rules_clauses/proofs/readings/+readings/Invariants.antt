use Rattle.std.proofs.Common.{drop}
use Rattle.statement.specs.Tree.{trees_of}
use Rattle.kif.specs.View.{tree_of, trees_in}
use Rattle.statement.specs.Items.{readings_in_turn, readings_of_all}
use Rattle.rules_clauses.specs.PicksView.{picks_made}
use Rattle.rules_clauses.specs.Spread.{lists_of}
use Rattle.rules_clauses.specs.StoreView.{data_of}
use Rattle.rules_profile.proofs.Facts.{tree_size, trees_size}
use Rattle.rules_clauses.proofs.SpreadLemmas.{InTurn, Picked}
use Rattle.rules_clauses.proofs.readings.+readings.Given as goal

abbrev pub decreases-read_literal : goal.decreases-read_literal
decreases-read_literal g l = tree_size (tree_of l.e.now)

abbrev pub decreases-read_in_turn : goal.decreases-read_in_turn
decreases-read_in_turn g l = trees_size (trees_in l.parts.now)

abbrev pub decreases-read_all : goal.decreases-read_all
decreases-read_all g l = trees_size (trees_in l.parts.now)

abbrev pub invariant-read_in_turn-loop-part : goal.invariant-read_in_turn-loop-part
invariant-read_in_turn-loop-part g l =
    InTurn l.from (data_of l.fn.store) (data_of l.store) (lists_of l.all.items) (readings_in_turn (trees_of (trees_in (drop l.part-index l.parts))))
    (readings_in_turn (trees_of (trees_in l.parts)))

abbrev pub invariant-read_all-loop-part : goal.invariant-read_all-loop-part
invariant-read_all-loop-part g l =
    Picked l.from (data_of l.fn.store) (data_of l.store) (picks_made l.picks) (readings_of_all (trees_of (trees_in (drop l.part-index l.parts))))
    (readings_of_all (trees_of (trees_in l.parts)))
