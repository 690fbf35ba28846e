use Rattle.std.proofs.Common.{◌≡◌}
use Rattle.ground_instances.specs.GroundView.{kinds_of}
use Rattle.game_rules.specs.Standings.{seeks, standing_below}
use Rattle.game_rules.proofs.standings.list_standing.Given as goal

-- the atoms before this one are listed
abbrev pub invariant-loop-atom : goal.invariant-loop-atom
invariant-loop-atom l = l.list.items ≡ standing_below (seeks l.sought) (kinds_of l.ground) l.atom
