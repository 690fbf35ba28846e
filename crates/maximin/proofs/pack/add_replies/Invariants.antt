use Rattle.std.proofs.Common.{◌≡◌, ◌-◌, ◌++◌, ◌∷◌}
use Rattle.statement.specs.Rules.{choices}
use Rattle.maximin.specs.Moves.{AreLonger}
use Rattle.maximin.specs.Run.{turns_in}
use Rattle.maximin.specs.Turns.{StandsAt, later}
use Rattle.maximin.proofs.pack.add_replies.Given as goal

-- the turns so far stand behind those that were there, and the others begin at the cursor
abbrev pub invariant-turns : goal.invariant-turns
invariant-turns g l =
    let rules = g.G.Game.rules l.game in
    let lists = choices rules (g.G.Game.state l.game l.from) l.role l.own in
    let old = l.initial.moves in
    record {
      longer : AreLonger rules old l.moves;
      stands : StandsAt lists l.moves.cursor.places.items l.moves.cursor.joint.items;
      left : turns_in old.run ++ (old.cursor.joint.items ∷ later lists old.cursor.places.items)
          ≡ turns_in l.moves.run ++ (l.moves.cursor.joint.items ∷ later lists l.moves.cursor.places.items);
    }

abbrev pub decreases-turns : goal.decreases-turns
decreases-turns g l = l.end - l.moves.run.count
