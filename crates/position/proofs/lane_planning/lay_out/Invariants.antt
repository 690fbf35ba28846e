use Rattle.std.proofs.Common.{◌≡◌}
use Rattle.ground_instances.specs.GroundView.{kinds_of}
use Rattle.position.specs.LanePlans.{places_below, asked_below}
use Rattle.position.proofs.lane_planning.lay_out.Given as goal

-- the atoms before this one that are asked are listed
abbrev pub invariant-loop-atom : goal.invariant-loop-atom
invariant-loop-atom l = record {
  places : l.places.items ≡ places_below l.scope (kinds_of l.ground) l.atom;
  nodes : l.nodes.items ≡ asked_below l.scope l.net.views.items (kinds_of l.ground) l.atom;
}
