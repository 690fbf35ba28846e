use Rattle.std.proofs.Common.{◌++◌, ◌∷◌, ℕ, List, [], sym, ap, ◌∙◌, arith, append_assoc}
use Rattle.statement.specs.Rules.{IsTurn, choices}
use Rattle.maximin.specs.Run.{turns_in}
use Rattle.maximin.specs.Turns.{later}
use Rattle.maximin.proofs.Kept.{moves_kept}
use Rattle.maximin.proofs.Runs.{turn_added}
use Rattle.maximin.proofs.Values.{turn_known}
use Rattle.maximin.proofs.moves.gather.Goals as goal

pub returns-then-not-next_turn-clause-taken : goal.returns-then-not-next_turn-clause-taken
returns-then-not-next_turn-clause-taken g c =
    let rules = g.G.Game.rules c.args.game.now in
    let state = g.G.Game.state c.args.game.now c.args.from.now in
    let law = g.met.G.Game g.world.𝓛 g.world.𝓜 g.world.𝓡 ((λ _ x. x), (λ x. x), (λ x. x), λ x. x) in
    let moves = c.turns.moves in
    let joint = moves.cursor.joint.items in
    let here = turn_known rules state c.args.role c.args.own moves.cursor.places.items joint c.turns.invariant.stands c.requires.own.own
    (λ q below. law.legal_within c.args.game.now state q below) in
    record {
      moves = record { cursor = c.next_turn.ensures.cursor; run = rw c.turns.invariant.room.cursor.joint at c.add_turn.ensures.run };
      capacities = moves_kept moves c.next_turn.new.cursor c.add_turn.new.run c.next_turn.ensures.capacities c.add_turn.ensures.capacities
          ∙ c.turns.invariant.capacities;
      some = omega (arith, c.add_turn.ensures.count);
      few = omega (arith, c.add_turn.ensures.count, c.turns.invariant.fewer);
      known = turn_added (IsTurn rules) (turns_in moves.run) (turns_in c.add_turn.new.run) joint c.add_turn.ensures.turns c.turns.invariant.known here;
    }

pub returns-then-moves-most-clause-taken : goal.returns-then-moves-most-clause-taken
returns-then-moves-most-clause-taken g c =
    let rules = g.G.Game.rules c.args.game.now in
    let state = g.G.Game.state c.args.game.now c.args.from.now in
    let law = g.met.G.Game g.world.𝓛 g.world.𝓜 g.world.𝓡 ((λ _ x. x), (λ x. x), (λ x. x), λ x. x) in
    let moves = c.turns.moves in
    let joint = moves.cursor.joint.items in
    let here = turn_known rules state c.args.role c.args.own moves.cursor.places.items joint c.turns.invariant.stands c.requires.own.own
    (λ q below. law.legal_within c.args.game.now state q below) in
    record {
      moves = record { cursor = c.next_turn.ensures.cursor; run = rw c.turns.invariant.room.cursor.joint at c.add_turn.ensures.run };
      capacities = moves_kept moves c.next_turn.new.cursor c.add_turn.new.run c.next_turn.ensures.capacities c.add_turn.ensures.capacities
          ∙ c.turns.invariant.capacities;
      some = omega (arith, c.add_turn.ensures.count);
      few = omega (arith, c.add_turn.ensures.count, c.turns.invariant.fewer);
      known = turn_added (IsTurn rules) (turns_in moves.run) (turns_in c.add_turn.new.run) joint c.add_turn.ensures.turns c.turns.invariant.known here;
    }

pub returns-then-not-next_turn-clause-left : goal.returns-then-not-next_turn-clause-left
returns-then-not-next_turn-clause-left g c =
    let rules = g.G.Game.rules c.args.game.now in
    let state = g.G.Game.state c.args.game.now c.args.from.now in
    let lists = choices rules state c.args.role c.args.own in
    let moves = c.turns.moves in
    let joint = moves.cursor.joint.items in
    let before = turns_in moves.run in
    record {
      stands = tt;
      more = tt;
      all = c.turns.invariant.left ∙ ap (λ (turns : List (List ℕ)). before ++ joint ∷ turns) c.if-not-next_turn.ensures.next.none
          ∙ sym c.add_turn.ensures.turns;
    }

pub returns-then-moves-most-clause-left : goal.returns-then-moves-most-clause-left
returns-then-moves-most-clause-left g c =
    let rules = g.G.Game.rules c.args.game.now in
    let state = g.G.Game.state c.args.game.now c.args.from.now in
    let lists = choices rules state c.args.role c.args.own in
    let moves = c.turns.moves in
    let joint = moves.cursor.joint.items in
    let before = turns_in moves.run in
    let behind = c.next_turn.new.cursor.joint.items ∷ later lists c.next_turn.new.cursor.places.items in
    record {
      stands = c.if-not-next_turn.ensures.next.stands;
      more = c.turns.invariant.left ∙ ap (λ (turns : List (List ℕ)). before ++ joint ∷ turns) c.if-not-next_turn.ensures.next.next
          ∙ sym (ap (λ (turns : List (List ℕ)). turns ++ behind) c.add_turn.ensures.turns ∙ append_assoc before (joint ∷ []) behind);
      all = tt;
    }

pub turns-preserved : goal.turns-preserved
turns-preserved g c =
    let rules = g.G.Game.rules c.args.game.now in
    let state = g.G.Game.state c.args.game.now c.args.from.now in
    let lists = choices rules state c.args.role c.args.own in
    let law = g.met.G.Game g.world.𝓛 g.world.𝓜 g.world.𝓡 ((λ _ x. x), (λ x. x), (λ x. x), λ x. x) in
    let moves = c.turns.moves in
    let joint = moves.cursor.joint.items in
    let before = turns_in moves.run in
    let behind = c.next_turn.new.cursor.joint.items ∷ later lists c.next_turn.new.cursor.places.items in
    let here = turn_known rules state c.args.role c.args.own moves.cursor.places.items joint c.turns.invariant.stands c.requires.own.own
    (λ q below. law.legal_within c.args.game.now state q below) in
    record {
      room = record { cursor = c.next_turn.ensures.cursor; run = rw c.turns.invariant.room.cursor.joint at c.add_turn.ensures.run };
      capacities = moves_kept moves c.next_turn.new.cursor c.add_turn.new.run c.next_turn.ensures.capacities c.add_turn.ensures.capacities
          ∙ c.turns.invariant.capacities;
      fewer = let others = c.if-moves-most.false in let room = c.turns.invariant.fewer in let more = c.add_turn.ensures.count in omega arith;
      known = turn_added (IsTurn rules) before (turns_in c.add_turn.new.run) joint c.add_turn.ensures.turns c.turns.invariant.known here;
      stands = c.if-not-next_turn.ensures.next.stands;
      left = c.turns.invariant.left ∙ ap (λ (turns : List (List ℕ)). before ++ joint ∷ turns) c.if-not-next_turn.ensures.next.next
          ∙ sym (ap (λ (turns : List (List ℕ)). turns ++ behind) c.add_turn.ensures.turns ∙ append_assoc before (joint ∷ []) behind);
    }
