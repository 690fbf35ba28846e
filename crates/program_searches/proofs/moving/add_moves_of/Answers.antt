use Rattle.std.proofs.Common.{◌<◌, length, arith}
use Rattle.program_searches.specs.Histories.{named}
use Rattle.statement.specs.Moving.{legal_line}
use Rattle.game.proofs.Facts.{legal_known, legal_place, legal_count}
use Rattle.program_searches.proofs.Lines.{one_element_more, past_the_end}
use Rattle.program_searches.proofs.moving.add_moves_of.Goals as goal

pub add_move-requires-clause-number : goal.add_move-requires-clause-number
add_move-requires-clause-number g c κs within =
    let rules = g.G.Game.rules c.args.game.now in
    let state = g.G.Game.state c.args.game.now c.args.p.now in
    let law = g.met.G.Game g.world.𝓛 g.world.𝓜 g.world.𝓡 ((λ _ x. x), (λ x. x), (λ x. x), λ x. x) in
    legal_known rules state c.args.role c.loop-number.place c.in-Some.number c.legal.result
    (law.legal_within c.args.game.now state c.args.role c.requires.role) c.legal.ensures c.in-Some.is

pub overflow_add-place : goal.overflow_add-place
overflow_add-place g c =
    let rules = g.G.Game.rules c.args.game.now in
    let state = g.G.Game.state c.args.game.now c.args.p.now in
    let here = legal_place rules state c.args.role c.loop-number.place c.in-Some.number c.legal.result c.legal.ensures c.in-Some.is in
    let law = g.met.G.Game g.world.𝓛 g.world.𝓜 g.world.𝓡 ((λ _ x. x), (λ x. x), (λ x. x), λ x. x) in
    let few = legal_count rules state c.args.role (law.legal_ascending c.args.game.now state c.args.role c.requires.role)
    (law.legal_within c.args.game.now state c.args.role c.requires.role)
    (law.moves_within c.args.game.now c.args.role c.requires.role) in
    omega (arith, here.0)

pub loop-number-smaller : goal.loop-number-smaller
loop-number-smaller g c =
    let rules = g.G.Game.rules c.args.game.now in
    let state = g.G.Game.state c.args.game.now c.args.p.now in
    let here = legal_place rules state c.args.role c.loop-number.place c.in-Some.number c.legal.result c.legal.ensures c.in-Some.is in
    let inside : c.loop-number.place < length (rules.legal state c.args.role) = here.0 in
    omega arith

pub loop-number-preserved : goal.loop-number-preserved
loop-number-preserved g c =
    let rules = g.G.Game.rules c.args.game.now in
    let state = g.G.Game.state c.args.game.now c.args.p.now in
    let here = legal_place rules state c.args.role c.loop-number.place c.in-Some.number c.legal.result c.legal.ensures c.in-Some.is in
    record {
      within = omega (arith, here.0);
      lines =
          one_element_more (legal_line (named rules (g.G.Game.role_name c.args.game.now) (g.G.Game.move_name c.args.game.now)) c.args.role)
          (rules.legal state c.args.role)
          c.loop-number.place c.in-Some.number c.args.output.now.items _ _ here.0 here.1 c.loop-number.invariant.lines c.in_ok-add_move.ensures;
    }

pub returns : goal.returns
returns g c =
    let rules = g.G.Game.rules c.args.game.now in
    let state = g.G.Game.state c.args.game.now c.args.p.now in
    past_the_end (legal_line (named rules (g.G.Game.role_name c.args.game.now) (g.G.Game.move_name c.args.game.now)) c.args.role)
    (rules.legal state c.args.role)
    c.loop-number.place c.legal.result c.args.output.now.items _ c.legal.ensures c.in_default.is c.loop-number.invariant.lines
