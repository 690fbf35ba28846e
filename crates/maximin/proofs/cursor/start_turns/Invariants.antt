use Rattle.std.proofs.Common.{◌≡◌}
use Rattle.statement.specs.Rules.{choices}
use Rattle.maximin.specs.Cursor.{IsCursorOf, cursor_capacities}
use Rattle.maximin.proofs.CursorSteps.{IsFirstBelow}
use Rattle.maximin.proofs.cursor.start_turns.Given as goal

abbrev pub invariant-loop-other : goal.invariant-loop-other
invariant-loop-other g l =
    let rules = g.G.Game.rules l.game in
    let lists = choices rules (g.G.Game.state l.game l.from) l.role l.own in
    record {
      cursor : IsCursorOf rules.roles l.cursor;
      capacities : cursor_capacities l.cursor ≡ cursor_capacities l.initial.cursor;
      first : IsFirstBelow lists l.other l.cursor.places.items l.cursor.joint.items;
    }
