use Rattle.std.proofs.Common.{◌≡◌, length}
use Rattle.position.specs.NetSources.{AreMarked}
use Rattle.position.proofs.net_sources.mark_lanes.Given as goal

-- the lanes before this one are marked
abbrev pub invariant-loop-l : goal.invariant-loop-l
invariant-loop-l l = record {
  size : length l.words ≡ length l.initial.words;
  marked : AreMarked l.places l.words l.l;
}
