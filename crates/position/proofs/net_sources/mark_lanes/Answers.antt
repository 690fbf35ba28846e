use Rattle.std.proofs.Common.{get_or, refl, ◌∙◌}
use Rattle.position.proofs.SourceLemmas.{marked_more}
use Rattle.position.proofs.net_sources.mark_lanes.Goals as goal

pub loop-l-preserved : goal.loop-l-preserved
loop-l-preserved c = record {
  size = c.mark_lane.ensures.size ∙ c.loop-l.invariant.size;
  marked = marked_more c.args.places.now c.loop-l.words c.mark_lane.new.words c.loop-l.l (get_or c.args.places.now c.loop-l.l 0) refl
      c.mark_lane.ensures.here c.mark_lane.ensures.word c.mark_lane.ensures.others c.loop-l.invariant.marked;
}
