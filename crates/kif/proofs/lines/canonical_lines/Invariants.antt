use Rattle.std.proofs.Common.{length, ◌-◌, ◌≤◌}
use Rattle.kif.proofs.LineStates.{IsShown}
use Rattle.kif.proofs.lines.canonical_lines.Given as goal

abbrev pub invariant-loop-at : goal.invariant-loop-at
invariant-loop-at l = record {
  within : l.at ≤ length l.text;
  state : IsShown l.text l.at l.lines.opened.items l.lines.is_first l.lines.output.items;
}

abbrev pub decreases-loop-at : goal.decreases-loop-at
decreases-loop-at l = length l.text - l.at
