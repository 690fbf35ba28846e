use Rattle.ground_rows.proofs.Facts.{Building}
use Rattle.ground_rows.proofs.sought.blank_key.Given as goal

abbrev pub invariant-loop-index : goal.invariant-loop-index
invariant-loop-index l = Building l.word l.parts l.index l.blanks.items l.key.items
