use Rattle.std.proofs.Common.{ℕ, ◌<◌, ◌≡◌, ◌-◌, ◌++◌, ◌∷◌, [], length, arith, w16, ◌∙◌, ap, codes, rules as facts}
use Rattle.std.proofs.lemmas.Int.{to_z-of_z}
use mir.Val.{SFits}
use Rattle.std.specs.Prelude.{nat_abs}
use Rattle.std.specs.Fmt.{decimal}
use Rattle.statement.specs.Value.{worst}
use Rattle.program_searches.specs.Histories.{named}
use Rattle.statement.specs.MoveValues.{worth_line}
use Rattle.game.proofs.Facts.{legal_known, legal_place, legal_count}
use Rattle.program_searches.proofs.MoveFacts.{one_element_more, past_the_end}
use Rattle.program_searches.proofs.MoveWorths.{among_moves}
use Rattle.program_searches.proofs.worths.add_worths.Goals as goal

pub move_worth-worth-requires-clause-own : goal.move_worth-worth-requires-clause-own
move_worth-worth-requires-clause-own g c κs within =
    let rules = g.G.Game.rules c.args.game.now in
    let state = g.G.Game.state c.args.game.now c.args.here.now in
    let role = c.args.asked.role in
    let here = legal_place rules state role c.loop-own.place c.in-Some.own c.legal.result c.legal.ensures c.in-Some.is in
    among_moves (rules.legal state role) c.loop-own.place c.in-Some.own here.0 here.1

pub add_worth-requires-clause-own : goal.add_worth-requires-clause-own
add_worth-requires-clause-own g c κs within =
    let rules = g.G.Game.rules c.args.game.now in
    let state = g.G.Game.state c.args.game.now c.args.here.now in
    let role = c.args.asked.role in
    let law = g.met.G.Game g.world.𝓛 g.world.𝓜 g.world.𝓡 ((λ _ x. x), (λ x. x), (λ x. x), λ x. x) in
    legal_known rules state role c.loop-own.place c.in-Some.own c.legal.result
    (law.legal_within c.args.game.now state role c.requires.room.role) c.legal.ensures c.in-Some.is

pub overflow_add-place : goal.overflow_add-place
overflow_add-place g c =
    let rules = g.G.Game.rules c.args.game.now in
    let state = g.G.Game.state c.args.game.now c.args.here.now in
    let role = c.args.asked.role in
    let here = legal_place rules state role c.loop-own.place c.in-Some.own c.legal.result c.legal.ensures c.in-Some.is in
    let law = g.met.G.Game g.world.𝓛 g.world.𝓜 g.world.𝓡 ((λ _ x. x), (λ x. x), (λ x. x), λ x. x) in
    let few = legal_count rules state role (law.legal_ascending c.args.game.now state role c.requires.room.role)
    (law.legal_within c.args.game.now state role c.requires.room.role) (law.moves_within c.args.game.now role c.requires.room.role) in
    omega (arith, here.0)

pub loop-own-smaller : goal.loop-own-smaller
loop-own-smaller g c =
    let rules = g.G.Game.rules c.args.game.now in
    let state = g.G.Game.state c.args.game.now c.args.here.now in
    let role = c.args.asked.role in
    let here = legal_place rules state role c.loop-own.place c.in-Some.own c.legal.result c.legal.ensures c.in-Some.is in
    let inside : c.loop-own.place < length (rules.legal state role) = here.0 in
    omega arith

pub loop-own-preserved : goal.loop-own-preserved
loop-own-preserved g c =
    let rules = g.G.Game.rules c.args.game.now in
    let state = g.G.Game.state c.args.game.now c.args.here.now in
    let role = c.args.asked.role in
    let depth = c.args.asked.depth - 1 in
    let name = g.G.Game.move_name c.args.game.now role c.in-Some.own in
    let here = legal_place rules state role c.loop-own.place c.in-Some.own c.legal.result c.legal.ensures c.in-Some.is in
    let fits : SFits w16 c.move_worth-worth.result = search facts in
    let worth : c.unsigned.result ≡ worst rules role depth c.args.asked.at state c.in-Some.own =
    c.unsigned.ensures ∙ ap nat_abs (to_z-of_z w16 c.move_worth-worth.result fits) ∙ ap nat_abs c.move_worth-worth.ensures.worth in
    record {
      room = record {
        role = c.loop-own.invariant.room.role;
        room = c.move_worth-worth.ensures.room.room;
        deep = omega (arith, c.loop-own.invariant.room.deep, c.move_worth-worth.ensures.room.depth);
      };
      same = c.move_worth-worth.ensures.room.depth ∙ c.loop-own.invariant.same;
      within = omega (arith, here.0);
      lines =
          one_element_more (worth_line (named rules (g.G.Game.role_name c.args.game.now) (g.G.Game.move_name c.args.game.now)) role depth c.args.asked.at state)
          (rules.legal state role)
          c.loop-own.place c.in-Some.own c.args.output.now.items _ _ here.0 here.1 c.loop-own.invariant.lines
          (c.in_ok-add_worth.ensures
          ∙ ap (λ (n : ℕ). c.loop-own.output.items ++ (codes "value " ++ decimal n ++ 32 ∷ name ++ 10 ∷ [])) worth);
    }

pub returns-clause-lines : goal.returns-clause-lines
returns-clause-lines g c =
    let rules = g.G.Game.rules c.args.game.now in
    let state = g.G.Game.state c.args.game.now c.args.here.now in
    let role = c.args.asked.role in
    let depth = c.args.asked.depth - 1 in
    past_the_end (worth_line (named rules (g.G.Game.role_name c.args.game.now) (g.G.Game.move_name c.args.game.now)) role depth c.args.asked.at state)
    (rules.legal state role)
    c.loop-own.place c.legal.result c.args.output.now.items _ c.legal.ensures c.in_default.is c.loop-own.invariant.lines
