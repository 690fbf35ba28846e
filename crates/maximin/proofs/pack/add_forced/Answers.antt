use Rattle.std.proofs.Common.{◌≡◌, ◌+◌, ℕ, List, [], ◌∷◌, length, length-append, drop, sym, ap, ◌∙◌, arith}
use Rattle.game.proofs.Facts.{legal_known, legal_place, none_past}
use Rattle.statement.specs.Rules.{Turn, choices}
use Rattle.maximin.specs.Run.{turns_in}
use Rattle.maximin.specs.Turns.{later}
use Rattle.maximin.proofs.Kept.{longer_at_first, longer_from}
use Rattle.maximin.proofs.OwnTurns.{one_element}
use Rattle.maximin.proofs.Packs.{forced_picked, not_some, rest_list, turns_count}
use Rattle.maximin.proofs.pack.add_forced.Goals as goal

pub returns-in_default : goal.returns-in_default
returns-in_default g c = record { moves = longer_at_first c.requires.moves; worth = tt }

pub returns-then-is_some : goal.returns-then-is_some
returns-then-is_some g c = record { moves = longer_at_first c.requires.moves; worth = tt }

pub add_replies-requires-clause-own : goal.add_replies-requires-clause-own
add_replies-requires-clause-own g c κs within =
    let rules = g.G.Game.rules c.args.game.now in
    let state = g.G.Game.state c.args.game.now c.args.from.now in
    let law = g.met.G.Game g.world.𝓛 g.world.𝓜 g.world.𝓡 ((λ _ x. x), (λ x. x), (λ x. x), λ x. x) in
    record {
      role = c.requires.role;
      own = legal_known rules state c.args.asked.role 0 c.in-Some.own c.legal.result
          (law.legal_within c.args.game.now state c.args.asked.role c.requires.role) c.legal.ensures c.in-Some.is;
      free = c.requires.«open».free;
    }

pub add_replies-requires-clause-moves : goal.add_replies-requires-clause-moves
add_replies-requires-clause-moves g c κs within =
    let is = c.requires.moves in
    record { moves = record { cursor = c.start_turns.ensures.cursor; run = is.moves.run }; known = is.known }

pub returns-then-add_replies : goal.returns-then-add_replies
returns-then-add_replies g c =
    let rules = g.G.Game.rules c.args.game.now in
    let state = g.G.Game.state c.args.game.now c.args.from.now in
    let legal = rules.legal state c.args.asked.role in
    let own = c.in-Some.own in
    let lists = choices rules state c.args.asked.role own in
    let run = c.args.moves.now.run in
    let more = c.add_replies.new.moves.run in
    let old = turns_in run in
    let added = c.start_turns.new.cursor.joint.items ∷ later lists c.start_turns.new.cursor.places.items in
    let whole : length (turns_in more) ≡ length old + length added =
    ap (λ (ts : List Turn). length ts) c.if-add_replies.ensures.turns ∙ length-append old added in
    let before = turns_count rules.roles run c.requires.moves.moves.run in
    let after = turns_count rules.roles more c.add_replies.ensures.moves.moves.run in
    let here = legal_place rules state c.args.asked.role 0 own c.legal.result c.legal.ensures c.in-Some.is in
    let few = none_past legal 1 c.legal-2.result c.legal-2.ensures (not_some c.legal-2.result c.is_some.result c.is_some.ensures c.if-is_some.false) in
    let one : legal ≡ own ∷ [] = one_element legal 0 here.0 few ∙ ap (λ (m : ℕ). m ∷ []) here.1 in
    record {
      moves = longer_from c.args.moves.now c.start_turns.new.cursor c.start_turns.ensures.capacities c.add_replies.ensures.moves;
      worth = record {
        some = omega arith;
        worth = forced_picked rules c.args.asked.role c.args.asked.depth c.args.asked.at state own (drop run.count (turns_in more))
            c.requires.«open» one (rest_list old added (turns_in more) run.count c.if-add_replies.ensures.turns before
            ∙ sym c.start_turns.ensures.first);
      };
    }

pub returns : goal.returns
returns g c = record {
  moves = longer_from c.args.moves.now c.start_turns.new.cursor c.start_turns.ensures.capacities c.add_replies.ensures.moves;
  worth = tt;
}
