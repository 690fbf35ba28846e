use Rattle.std.proofs.Common.{◌≡◌}
use Rattle.ground_instances.specs.GroundView.{kinds_of}
use Rattle.position.specs.LanePlans.{legals_below}
use Rattle.position.proofs.net_planning.list_legals.Given as goal

-- the moves before this one are listed
abbrev pub invariant-loop-number : goal.invariant-loop-number
invariant-loop-number l = l.list.items ≡ legals_below l.places (kinds_of l.ground) l.role l.number
