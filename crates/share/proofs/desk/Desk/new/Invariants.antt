use Rattle.std.proofs.Common.{◌≡◌, ◌≤◌, length}
use Rattle.std.specs.Prelude.{All, vec_capacity}
use Rattle.share.specs.Step.{IsStepOf}
use Rattle.share.proofs.desk.Desk.new.Given as goal

abbrev pub invariant-loop : goal.invariant-loop
invariant-loop g l = record {
  steps : All (IsStepOf g.G.Game l.game) l.steps.items;
  count : length l.steps.items ≡ l.counter;
  place : 3 ≤ vec_capacity l.steps;
}
