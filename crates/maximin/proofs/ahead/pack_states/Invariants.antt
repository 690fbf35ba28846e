use Rattle.std.proofs.Common.{◌≡◌, ◌-◌, ◌≤◌}
use Rattle.maximin.specs.Level.{level_capacities}
use Rattle.maximin.specs.Pack.{IsPacked}
use Rattle.maximin.proofs.ahead.pack_states.Given as goal

abbrev pub invariant-states : goal.invariant-states
invariant-states g l = record {
  place : l.place ≤ l.count;
  packed : IsPacked g.G.Game l.game l.asked l.many l.level l.pack;
  capacities : level_capacities g.G.Game l.game l.level ≡ level_capacities g.G.Game l.game l.initial.level;
}

abbrev pub decreases-states : goal.decreases-states
decreases-states g l = l.count - l.place
