use Rattle.std.proofs.Common.{◌≡◌, ◌+◌, ℕ, List, length, length-append, map, drop, ap, ◌∙◌, arith}
use Rattle.std.proofs.Math.ListN.{set}
use Rattle.std.proofs.lemmas.List.{length-map}
use Rattle.statement.specs.Rules.{Turn}
use Rattle.maximin.specs.Run.{turns_in}
use Rattle.maximin.proofs.Choices.{legal_some}
use Rattle.maximin.proofs.Kept.{longer_from}
use Rattle.maximin.proofs.Packs.{alone_picked, rest_list, turns_count}
use Rattle.maximin.proofs.Values.{turn_known}
use Rattle.maximin.proofs.pack.add_alone.Goals as goal

pub add_own_turns-requires-clause-joint : goal.add_own_turns-requires-clause-joint
add_own_turns-requires-clause-joint g c κs within =
    let rules = g.G.Game.rules c.args.game.now in
    let state = g.G.Game.state c.args.game.now c.args.from.now in
    let law = g.met.G.Game g.world.𝓛 g.world.𝓜 g.world.𝓡 ((λ _ x. x), (λ x. x), (λ x. x), λ x. x) in
    let some = legal_some rules state c.args.asked.role c.requires.«open».free c.requires.role in
    let first = law.legal_within c.args.game.now state c.args.asked.role c.requires.role 0 0 some in
    turn_known rules state c.args.asked.role 0 c.start_turns.new.cursor.places.items c.start_turns.new.cursor.joint.items c.start_turns.ensures.stands
    (omega arith) (λ q below. law.legal_within c.args.game.now state q below)

pub add_own_turns-requires-clause-moves : goal.add_own_turns-requires-clause-moves
add_own_turns-requires-clause-moves g c κs within =
    let is = c.requires.moves in
    record { moves = record { cursor = c.start_turns.ensures.cursor; run = is.moves.run }; known = is.known }

pub returns-then-add_own_turns : goal.returns-then-add_own_turns
returns-then-add_own_turns g c =
    let rules = g.G.Game.rules c.args.game.now in
    let state = g.G.Game.state c.args.game.now c.args.from.now in
    let legal = rules.legal state c.args.asked.role in
    let some = legal_some rules state c.args.asked.role c.requires.«open».free c.requires.role in
    let run = c.args.moves.now.run in
    let more = c.add_own_turns.new.moves.run in
    let old = turns_in run in
    let joint = c.start_turns.new.cursor.joint.items in
    let turn : ℕ → Turn = λ m. set joint c.args.asked.role m in
    let added = map turn legal in
    let size : length added ≡ length legal = length-map legal turn in
    let whole : length (turns_in more) ≡ length old + length added =
    ap (λ (ts : List Turn). length ts) c.if-add_own_turns.ensures.turns ∙ length-append old added in
    let before = turns_count rules.roles run c.requires.moves.moves.run in
    let after = turns_count rules.roles more c.add_own_turns.ensures.moves.moves.run in
    record {
      moves = longer_from c.args.moves.now c.start_turns.new.cursor c.start_turns.ensures.capacities c.add_own_turns.ensures.moves;
      worth = record {
        some = omega arith;
        worth = alone_picked rules c.args.asked.role c.args.asked.depth c.args.asked.at state 0 c.start_turns.new.cursor.places.items joint
            (drop run.count (turns_in more)) c.requires.role c.requires.«open» c.requires.alone c.start_turns.ensures.stands
            (rest_list old added (turns_in more) run.count c.if-add_own_turns.ensures.turns before);
      };
    }

pub returns : goal.returns
returns g c = record {
  moves = longer_from c.args.moves.now c.start_turns.new.cursor c.start_turns.ensures.capacities c.add_own_turns.ensures.moves;
  worth = tt;
}
