use Rattle.std.proofs.Common.{◌≡◌}
use Rattle.maximin.specs.Children.{AreLookedAt, AreSameStates}
use Rattle.maximin.proofs.ahead.look_back.Given as goal

abbrev pub invariant-loop-place : goal.invariant-loop-place
invariant-loop-place g l = record {
  known : AreLookedAt g.G.Game l.game l.asked l.children;
  same : AreSameStates g.G.Game l.game l.initial.children l.children;
  count : l.children.ahead.count ≡ l.initial.children.ahead.count;
}
