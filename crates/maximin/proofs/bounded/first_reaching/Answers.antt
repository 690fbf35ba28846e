use Rattle.std.proofs.Common.{◌≡◌, ◌≤◌, length, arith, sym, ◌∙◌, below_more}
use Rattle.maximin.proofs.Reaching.{reached_first, reached_never}
use Rattle.maximin.proofs.Kept.{kept_then}
use Rattle.maximin.specs.Open.{IsOpen}
use Rattle.game.proofs.Facts.{legal_known, legal_place, legal_count, none_past}
use Rattle.maximin.proofs.bounded.first_reaching.Goals as goal

pub reaches-requires-clause-own : goal.reaches-requires-clause-own
reaches-requires-clause-own g c κs within =
    let rules = g.G.Game.rules c.args.game.now in
    let state = g.G.Game.state c.args.game.now c.args.from.now in
    let law = g.met.G.Game g.world.𝓛 g.world.𝓜 g.world.𝓡 ((λ _ x. x), (λ x. x), (λ x. x), λ x. x) in
    legal_known rules state c.args.asked.role c.loop-own.place c.in-Some.own c.legal.result
    (law.legal_within c.args.game.now state c.args.asked.role c.requires.fit.role) c.legal.ensures c.in-Some.is

pub returns-then-reaches-clause-first : goal.returns-then-reaches-clause-first
returns-then-reaches-clause-first g c =
    let rules = g.G.Game.rules c.args.game.now in
    let state = g.G.Game.state c.args.game.now c.args.from.now in
    let here = legal_place rules state c.args.asked.role c.loop-own.place c.in-Some.own c.legal.result c.legal.ensures c.in-Some.is in
    let free : IsOpen rules c.args.asked.depth state = record {
      turn = c.if-asked-eq0.false;
      going = sym c.ended.ensures ∙ c.if-ended.false;
      free = sym c.is_stuck.ensures ∙ c.if-is_stuck.false;
    } in
    sym c.in-Some.is ∙ c.legal.ensures
    ∙ sym (reached_first rules c.args.asked.role c.args.asked.depth c.args.asked.at c.args.bound state c.loop-own.place free here.0
    (rw here.1 (sym c.reaches.ensures.reaches ∙ c.if-reaches.true)) c.loop-own.invariant.before)

pub overflow_add-place : goal.overflow_add-place
overflow_add-place g c =
    let rules = g.G.Game.rules c.args.game.now in
    let state = g.G.Game.state c.args.game.now c.args.from.now in
    let here = legal_place rules state c.args.asked.role c.loop-own.place c.in-Some.own c.legal.result c.legal.ensures c.in-Some.is in
    let law = g.met.G.Game g.world.𝓛 g.world.𝓜 g.world.𝓡 ((λ _ x. x), (λ x. x), (λ x. x), λ x. x) in
    let few = legal_count rules state c.args.asked.role (law.legal_ascending c.args.game.now state c.args.asked.role c.requires.fit.role)
    (law.legal_within c.args.game.now state c.args.asked.role c.requires.fit.role)
    (law.moves_within c.args.game.now c.args.asked.role c.requires.fit.role) in
    omega (arith, here.0)

pub loop-own-smaller : goal.loop-own-smaller
loop-own-smaller g c =
    let rules = g.G.Game.rules c.args.game.now in
    let state = g.G.Game.state c.args.game.now c.args.from.now in
    let here = legal_place rules state c.args.asked.role c.loop-own.place c.in-Some.own c.legal.result c.legal.ensures c.in-Some.is in
    omega (arith, here.0)

pub loop-own-preserved : goal.loop-own-preserved
loop-own-preserved g c =
    let rules = g.G.Game.rules c.args.game.now in
    let state = g.G.Game.state c.args.game.now c.args.from.now in
    let here = legal_place rules state c.args.asked.role c.loop-own.place c.in-Some.own c.legal.result c.legal.ensures c.in-Some.is in
    record {
      kept = kept_then c.loop-own.invariant.kept c.reaches.ensures.kept;
      deep = omega arith;
      within = omega (arith, here.0);
      before = below_more _ _ c.loop-own.invariant.before (rw here.1 (sym c.reaches.ensures.reaches ∙ c.if-reaches.false));
    }

pub returns-clause-first : goal.returns-clause-first
returns-clause-first g c =
    let rules = g.G.Game.rules c.args.game.now in
    let state = g.G.Game.state c.args.game.now c.args.from.now in
    let legal = rules.legal state c.args.asked.role in
    let free : IsOpen rules c.args.asked.depth state = record {
      turn = c.if-asked-eq0.false;
      going = sym c.ended.ensures ∙ c.if-ended.false;
      free = sym c.is_stuck.ensures ∙ c.if-is_stuck.false;
    } in
    let past : length legal ≤ c.loop-own.place = none_past legal c.loop-own.place c.legal.result c.legal.ensures c.in_default.is in
    sym (reached_never rules c.args.asked.role c.args.asked.depth c.args.asked.at c.args.bound state free
    (λ k lt. c.loop-own.invariant.before k (omega (arith, past))))
