use Rattle.std.proofs.Common.{◌≡◌, ◌<◌, ◌≤◌, [], length, sym, ◌∙◌, ap, arith, get_or}
use Rattle.std.proofs.Math.ListN.{length-set}
use Rattle.statement.specs.Rules.{choices}
use Rattle.game.proofs.Facts.{none_past}
use Rattle.maximin.proofs.Choices.{length-choices, choices_some}
use Rattle.maximin.proofs.CursorSteps.{first_more, first_stands, first_picks}
use Rattle.maximin.proofs.cursor.start_turns.Goals as goal
use Rattle.maximin.proofs.cursor.start_turns.Goals.{in-Some, in_default}

pub loop-other-preserved : goal.loop-other-preserved
loop-other-preserved g c =
    let rules = g.G.Game.rules c.args.game.now in
    let state = g.G.Game.state c.args.game.now c.args.from.now in
    let lists = choices rules state c.args.role c.args.own in
    let moves : length c.loop-other.cursor.joint.items ≡ rules.roles = c.loop-other.invariant.cursor.joint in
    let places : length c.loop-other.cursor.places.items ≡ rules.roles = c.loop-other.invariant.cursor.places in
    elim c.match-option_at.branch [
      | in-Some w ↦
          rw w.cursor-is record {
            cursor = record {
              joint = ap length w.put.ensures.joint ∙ simp length-set moves;
              places = ap length w.put.ensures.places ∙ simp length-set places;
            };
            capacities = w.put.ensures.capacities ∙ c.loop-other.invariant.capacities;
            first = first_more lists c.loop-other.other c.loop-other.cursor.places.items c.loop-other.cursor.joint.items w.in-Some.first
                w.put.new.self.places.items w.put.new.self.joint.items
                (omega arith) (omega arith) w.put.ensures.places w.put.ensures.joint (sym w.in-Some.is ∙ c.option_at.ensures)
                c.loop-other.invariant.first;
          }
      | in_default w ↦
          let some : 0 < length (get_or lists c.loop-other.other []) = choices_some rules state c.args.role c.args.own c.loop-other.other
          c.requires.«open» (omega arith) in
          let none : length (get_or lists c.loop-other.other []) ≤ 0 = none_past (get_or lists c.loop-other.other []) 0 c.option_at.result
          c.option_at.ensures w.in_default.is in
          absurd (omega arith)
    ]

pub returns-clause-stands : goal.returns-clause-stands
returns-clause-stands g c =
    let rules = g.G.Game.rules c.args.game.now in
    let state = g.G.Game.state c.args.game.now c.args.from.now in
    let count : length (choices rules state c.args.role c.args.own) ≡ rules.roles = length-choices rules state c.args.role c.args.own in
    first_stands (choices rules state c.args.role c.args.own) c.loop-other.other c.loop-other.cursor.places.items c.loop-other.cursor.joint.items
    (c.loop-other.invariant.cursor.places ∙ sym count) (c.loop-other.invariant.cursor.joint ∙ sym count) (omega arith)
    (λ q below. choices_some rules state c.args.role c.args.own q c.requires.«open» (omega arith))
    c.loop-other.invariant.first

pub returns-clause-first : goal.returns-clause-first
returns-clause-first g c =
    let rules = g.G.Game.rules c.args.game.now in
    let state = g.G.Game.state c.args.game.now c.args.from.now in
    let count : length (choices rules state c.args.role c.args.own) ≡ rules.roles = length-choices rules state c.args.role c.args.own in
    first_picks (choices rules state c.args.role c.args.own) c.loop-other.other c.loop-other.cursor.places.items c.loop-other.cursor.joint.items
    (omega arith) (returns-clause-stands g c) c.loop-other.invariant.first
