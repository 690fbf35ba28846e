use Rattle.std.proofs.Common.{◌≡◌}
use Rattle.statement.specs.Rules.{choices}
use Rattle.maximin.specs.Cursor.{IsCursorOf, cursor_capacities}
use Rattle.maximin.proofs.CursorSteps.{IsWrappedFrom}
use Rattle.maximin.proofs.cursor.next_turn.Given as goal

abbrev pub invariant-loop-other : goal.invariant-loop-other
invariant-loop-other g l =
    let rules = g.G.Game.rules l.game in
    let lists = choices rules (g.G.Game.state l.game l.from) l.role l.own in
    record {
      cursor : IsCursorOf rules.roles l.cursor;
      capacities : cursor_capacities l.cursor ≡ cursor_capacities l.initial.cursor;
      wrapped : IsWrappedFrom lists l.other l.initial.cursor.places.items l.initial.cursor.joint.items l.cursor.places.items l.cursor.joint.items;
    }
