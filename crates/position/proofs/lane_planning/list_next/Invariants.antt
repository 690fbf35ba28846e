use Rattle.std.proofs.Common.{◌≡◌}
use Rattle.position.specs.LanePlans.{next_below}
use Rattle.position.proofs.lane_planning.list_next.Given as goal

-- the transitions of the base propositions before this one are listed
abbrev pub invariant-loop-p : goal.invariant-loop-p
invariant-loop-p l = l.nodes.items ≡ next_below l.net l.p
