use Rattle.std.proofs.Common.{◌≡◌, ℕ, ◌≤◌, ◌∷◌, length}
use Rattle.statement.specs.Rules.{choices, turns_with, Turn}
use Rattle.statement.specs.Value.{value, worst}
use Rattle.maximin.specs.Turns.{StandsAt, later}
use Rattle.maximin.specs.Tools.{AreKept}
use Rattle.maximin.specs.Level.{IsLevelOf, level_capacities}
use Rattle.maximin.proofs.Beside.{IsAhead}
use Rattle.maximin.proofs.known.try_reply_worth.Given as goal

-- the joint move at the cursor is the first that can leave the least value
abbrev pub invariant-turns : goal.invariant-turns
invariant-turns g l =
    let rules = g.G.Game.rules l.game in
    let state = g.G.Game.state l.game l.from in
    let lists = choices rules state l.asked.role l.known.own in
    let worth : Turn → ℕ = λ j. value rules l.asked.role l.asked.depth l.asked.at (rules.after state j) in
    record {
      level : IsLevelOf g.G.Game l.game l.level;
      capacities : level_capacities g.G.Game l.game l.level ≡ level_capacities g.G.Game l.game l.initial.level;
      kept : AreKept g.G.Game l.game l.fn.tools l.initial.rest l.tools l.rest;
      deep : l.asked.depth ≤ length l.rest;
      capacity : l.out.capacity ≡ l.fn.out.capacity;
      stands : StandsAt lists l.level.moves.cursor.places.items l.level.moves.cursor.joint.items;
      is_ahead : IsAhead worth (turns_with rules state l.asked.role l.known.own) (worst rules l.asked.role l.asked.depth l.asked.at state l.known.own)
          (l.level.moves.cursor.joint.items ∷ later lists l.level.moves.cursor.places.items);
    }

abbrev pub decreases-turns : goal.decreases-turns
decreases-turns g l =
    let rules = g.G.Game.rules l.game in
    length (later (choices rules (g.G.Game.state l.game l.from) l.asked.role l.known.own) l.level.moves.cursor.places.items)
