use Rattle.std.proofs.Common.{◌≡◌, ◌+◌, ◌-◌, ◌≤◌, length}
use Rattle.std.specs.Prelude.{All}
use Rattle.statement.specs.Rules.{IsTurn}
use Rattle.maximin.specs.Alone.{turns_from}
use Rattle.maximin.specs.Run.{IsRunOf, turns_in, run_capacities}
use Rattle.maximin.proofs.alone.gather_own.Given as goal

-- the joint moves so far are in the run
abbrev pub invariant-moves : goal.invariant-moves
invariant-moves g l =
    let rules = g.G.Game.rules l.game in
    let state = g.G.Game.state l.game l.from in
    record {
      run : IsRunOf rules.roles l.run;
      capacities : run_capacities l.run ≡ run_capacities l.fn.run;
      few : l.run.count ≤ l.most;
      within : l.place + l.run.count ≤ length (rules.legal state l.role);
      known : All (IsTurn rules) (turns_in l.run);
      turns : turns_in l.run ≡ turns_from rules state l.role l.joint.items l.place l.run.count;
    }

abbrev pub decreases-moves : goal.decreases-moves
decreases-moves g l = l.most - l.run.count
