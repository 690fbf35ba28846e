use Rattle.std.proofs.Common.{◌≡◌, ◌-◌, ◌≤◌, ◌++◌, length, take, map}
use Rattle.std.proofs.Math.ListN.{set}
use Rattle.std.specs.Prelude.{All}
use Rattle.statement.specs.Rules.{IsTurn}
use Rattle.maximin.specs.Run.{IsRunOf, turns_in, run_capacities}
use Rattle.maximin.proofs.pack.add_own_turns.Given as goal

-- the joint moves of the moves so far stand behind those that were there
abbrev pub invariant-moves : goal.invariant-moves
invariant-moves g l =
    let rules = g.G.Game.rules l.game in
    let legal = rules.legal (g.G.Game.state l.game l.from) l.role in
    let old = l.initial.moves in
    record {
      cursor : l.moves.cursor ≡ old.cursor;
      run : IsRunOf rules.roles l.moves.run;
      capacities : run_capacities l.moves.run ≡ run_capacities old.run;
      known : All (IsTurn rules) (turns_in l.moves.run);
      in_list : l.place ≤ length legal;
      count : old.run.count ≤ l.moves.run.count;
      turns : turns_in l.moves.run ≡ turns_in old.run ++ map (λ m. set old.cursor.joint.items l.role m) (take l.place legal);
    }

abbrev pub decreases-moves : goal.decreases-moves
decreases-moves g l = length ((g.G.Game.rules l.game).legal (g.G.Game.state l.game l.from) l.role) - l.place
