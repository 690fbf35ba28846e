use Rattle.std.proofs.Common.{◌≡◌, ◌<◌, ◌-◌, ◌++◌, ◌∷◌}
use Rattle.std.specs.Prelude.{All}
use Rattle.statement.specs.Rules.{choices, IsTurn}
use Rattle.maximin.specs.Turns.{StandsAt, later}
use Rattle.maximin.specs.Moves.{AreMovesOf, moves_capacities}
use Rattle.maximin.specs.Run.{turns_in}
use Rattle.maximin.proofs.moves.gather.Given as goal

-- the turns so far are in the run, and the others begin at the cursor
abbrev pub invariant-turns : goal.invariant-turns
invariant-turns g l =
    let rules = g.G.Game.rules l.game in
    let lists = choices rules (g.G.Game.state l.game l.from) l.role l.own in
    record {
      room : AreMovesOf rules.roles l.moves;
      capacities : moves_capacities l.moves ≡ moves_capacities l.fn.moves;
      fewer : l.moves.run.count < l.most;
      known : All (IsTurn rules) (turns_in l.moves.run);
      stands : StandsAt lists l.moves.cursor.places.items l.moves.cursor.joint.items;
      left : l.fn.moves.cursor.joint.items ∷ later lists l.fn.moves.cursor.places.items
          ≡ turns_in l.moves.run ++ l.moves.cursor.joint.items ∷ later lists l.moves.cursor.places.items;
    }

abbrev pub decreases-turns : goal.decreases-turns
decreases-turns g l = l.most - l.moves.run.count
