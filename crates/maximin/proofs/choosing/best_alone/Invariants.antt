use Rattle.std.proofs.Common.{◌≡◌, ◌-◌, ◌≤◌, length}
use Rattle.statement.specs.Rules.{choices}
use Rattle.maximin.specs.Best.{IsBest, own_worth}
use Rattle.maximin.specs.Level.{IsLevelOf, level_capacities}
use Rattle.maximin.specs.Tools.{AreKept}
use Rattle.maximin.specs.Turns.{StandsAt}
use Rattle.maximin.proofs.choosing.best_alone.Given as goal

abbrev pub invariant-runs : goal.invariant-runs
invariant-runs g l =
    let rules = g.G.Game.rules l.game in
    let state = g.G.Game.state l.game l.from in
    record {
      level : IsLevelOf g.G.Game l.game l.level;
      capacities : level_capacities g.G.Game l.game l.level ≡ level_capacities g.G.Game l.game l.initial.level;
      kept : AreKept g.G.Game l.game l.fn.tools l.initial.rest l.tools l.rest;
      deep : l.asked.depth ≤ length l.rest;
      stands : StandsAt (choices rules state l.asked.role 0) l.level.moves.cursor.places.items l.level.moves.cursor.joint.items;
      in_list : l.best.seen ≤ length (rules.legal state l.asked.role);
      is_best : IsBest (own_worth rules l.asked.role l.asked.depth l.asked.at state) l.best.seen l.best.worth l.best.place;
    }

abbrev pub decreases-runs : goal.decreases-runs
decreases-runs g l = length ((g.G.Game.rules l.game).legal (g.G.Game.state l.game l.from) l.asked.role) - l.best.seen
