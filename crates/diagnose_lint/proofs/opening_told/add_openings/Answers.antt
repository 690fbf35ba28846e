use Rattle.ground_terms.proofs.Facts.{front_itself, front_trans}
use Rattle.diagnose_lint.proofs.opening_told.add_openings.Goals as goal

pub item_place-requires : goal.item_place-requires
item_place-requires g c = c.new-pointer.ensures.pointer _

pub loop-opening-init : goal.loop-opening-init
loop-opening-init g c = front_itself _

pub loop-opening-preserved : goal.loop-opening-preserved
loop-opening-preserved g c = front_trans _ _ _ c.loop-opening.invariant c.in_ok-add_line.ensures
