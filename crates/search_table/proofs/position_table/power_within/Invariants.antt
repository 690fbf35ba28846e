use Rattle.std.proofs.Common.{◌≤◌, ◌-◌}
use Rattle.search_table.proofs.position_table.power_within.Given as goal

abbrev pub invariant-loop-power : goal.invariant-loop-power
invariant-loop-power l = 4 ≤ l.power

abbrev pub decreases-loop-power : goal.decreases-loop-power
decreases-loop-power l = l.most - l.power
