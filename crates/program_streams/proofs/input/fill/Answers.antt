use Rattle.program_streams.proofs.Filling.{read_more}
use Rattle.program_streams.proofs.input.fill.Goals as goal

pub loop-filled-preserved : goal.loop-filled-preserved
loop-filled-preserved g c = (
  c.in_ok-count.ensures.within,
  read_more _ _ _ c.loop-filled.room c.read_at.new.room _ _ c.in_ok-count.ensures.front c.loop-filled.invariant.1
      c.in_ok-count.ensures.consumed,
)
