use Rattle.std.proofs.Common.{◌≡◌, ◌++◌, ◌∷◌, List, [], length, take, refl, sym, ap, ◌∙◌, arith, append_assoc}
use Rattle.statement.specs.Rules.{Turn, IsTurn, choices}
use Rattle.maximin.specs.Run.{turns_in}
use Rattle.maximin.specs.Turns.{later}
use Rattle.maximin.proofs.Kept.{longer_at_first, moves_kept}
use Rattle.maximin.proofs.Packs.{front_more, turns_count}
use Rattle.maximin.proofs.Runs.{turn_added}
use Rattle.maximin.proofs.Values.{turn_known}
use Rattle.maximin.proofs.pack.add_replies.Goals as goal

pub turns-init : goal.turns-init
turns-init g c = record { longer = longer_at_first c.requires.moves; stands = c.requires.stands; left = refl }

pub returns-then-not-next_turn : goal.returns-then-not-next_turn
returns-then-not-next_turn g c =
    let rules = g.G.Game.rules c.args.game.now in
    let state = g.G.Game.state c.args.game.now c.args.from.now in
    let law = g.met.G.Game g.world.𝓛 g.world.𝓜 g.world.𝓡 ((λ _ x. x), (λ x. x), (λ x. x), λ x. x) in
    let moves = c.turns.moves in
    let is = c.turns.invariant.longer in
    let joint = moves.cursor.joint.items in
    let before = turns_in moves.run in
    let here = turn_known rules state c.args.role c.args.own moves.cursor.places.items joint c.turns.invariant.stands c.requires.own.own
    (λ q below. law.legal_within c.args.game.now state q below) in
    let size : length before ≡ moves.run.count = turns_count rules.roles moves.run is.moves.run in
    record {
      moves = record {
        moves = record { cursor = c.next_turn.ensures.cursor; run = rw is.moves.cursor.joint at c.add_turn.ensures.run };
        capacities = moves_kept moves c.next_turn.new.cursor c.add_turn.new.run c.next_turn.ensures.capacities c.add_turn.ensures.capacities
            ∙ is.capacities;
        known = turn_added (IsTurn rules) before (turns_in c.add_turn.new.run) joint c.add_turn.ensures.turns is.known here;
        count = omega (arith, c.add_turn.ensures.count, is.count);
        front = ap (λ (turns : List Turn). take c.args.moves.now.run.count turns) c.add_turn.ensures.turns
            ∙ front_more before (joint ∷ []) (turns_in c.args.moves.now.run) c.args.moves.now.run.count is.front (omega (arith, size, is.count));
      };
      turns = c.add_turn.ensures.turns ∙ ap (λ (turns : List Turn). before ++ joint ∷ turns) (sym c.if-not-next_turn.ensures.next.none)
          ∙ sym c.turns.invariant.left;
    }

pub turns-preserved : goal.turns-preserved
turns-preserved g c =
    let rules = g.G.Game.rules c.args.game.now in
    let state = g.G.Game.state c.args.game.now c.args.from.now in
    let lists = choices rules state c.args.role c.args.own in
    let law = g.met.G.Game g.world.𝓛 g.world.𝓜 g.world.𝓡 ((λ _ x. x), (λ x. x), (λ x. x), λ x. x) in
    let moves = c.turns.moves in
    let is = c.turns.invariant.longer in
    let joint = moves.cursor.joint.items in
    let before = turns_in moves.run in
    let behind = c.next_turn.new.cursor.joint.items ∷ later lists c.next_turn.new.cursor.places.items in
    let here = turn_known rules state c.args.role c.args.own moves.cursor.places.items joint c.turns.invariant.stands c.requires.own.own
    (λ q below. law.legal_within c.args.game.now state q below) in
    let size : length before ≡ moves.run.count = turns_count rules.roles moves.run is.moves.run in
    record {
      longer = record {
        moves = record { cursor = c.next_turn.ensures.cursor; run = rw is.moves.cursor.joint at c.add_turn.ensures.run };
        capacities = moves_kept moves c.next_turn.new.cursor c.add_turn.new.run c.next_turn.ensures.capacities c.add_turn.ensures.capacities
            ∙ is.capacities;
        known = turn_added (IsTurn rules) before (turns_in c.add_turn.new.run) joint c.add_turn.ensures.turns is.known here;
        count = omega (arith, c.add_turn.ensures.count, is.count);
        front = ap (λ (turns : List Turn). take c.args.moves.now.run.count turns) c.add_turn.ensures.turns
            ∙ front_more before (joint ∷ []) (turns_in c.args.moves.now.run) c.args.moves.now.run.count is.front (omega (arith, size, is.count));
      };
      stands = c.if-not-next_turn.ensures.next.stands;
      left = c.turns.invariant.left ∙ ap (λ (turns : List Turn). before ++ joint ∷ turns) c.if-not-next_turn.ensures.next.next
          ∙ sym (ap (λ (turns : List Turn). turns ++ behind) c.add_turn.ensures.turns ∙ append_assoc before (joint ∷ []) behind);
    }
