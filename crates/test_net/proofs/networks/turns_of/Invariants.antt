use Rattle.std.proofs.Common.{◌≡◌, length}
use Rattle.std.specs.Prelude.{All}
use Rattle.smallvec.specs.SmallVec.{SmallVec}
use Rattle.statement.specs.Rules.{IsTurn}
use Rattle.test_net.proofs.networks.turns_of.Given as goal

-- a turn for each place before this one
abbrev pub invariant-loop-place : goal.invariant-loop-place
invariant-loop-place g l = record {
  size : length l.turns.items ≡ l.place;
  each : All (λ (j : SmallVec _). IsTurn (g.G.Game.rules l.game) j.items) l.turns.items;
}
