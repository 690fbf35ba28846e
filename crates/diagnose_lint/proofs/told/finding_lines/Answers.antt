use Rattle.diagnose_lint.proofs.told.finding_lines.Goals as goal

pub loop-note-init : goal.loop-note-init
loop-note-init g c = c.new-pointer.ensures.pointer _
