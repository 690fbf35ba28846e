use Rattle.std.proofs.Common.{◌≡◌, ◌+◌, ◌<◌, ◌≤◌, [], refl, arith, length, get_or, w16, rules as facts}
use Rattle.std.proofs.lemmas.Int.{ints, clamps, to_z-of_z}
use mir.Val.{SFits}
use Rattle.std.specs.Prelude.{pos}
use Rattle.std.specs.Int.{int_max}
use Rattle.game.specs.Value.{Answers}
use Rattle.statement.specs.Value.{value}
use Rattle.maximin.proofs.Bounds.{value_at_most}
use Rattle.maximin.proofs.Kept.{kept_at_first, kept_then, same_states_then}
use Rattle.maximin.proofs.choosing.best_among.Goals as goal

pub loop-child-init : goal.loop-child-init
loop-child-init g c = record {
  kept = kept_at_first c.requires.fit;
  deep = refl;
  known = c.requires.children;
  same = record { position = c.requires.children.position; capacities = refl; many = refl };
  range = c.requires.range;
  seen = omega arith;
  best = λ own worths is. is;
}

pub better_of-best-requires : goal.better_of-best-requires
better_of-best-requires g c =
    omega (arith, c.loop-child.invariant.seen, c.requires.few, c.requires.children.ahead.count, c.loop-child-test.true)

pub child_above-requires-clause-place : goal.child_above-requires-clause-place
child_above-requires-clause-place g c κs within =
    rw c.loop-child.invariant.same.many (omega (arith, c.requires.children.ahead.count, c.loop-child-test.true))

pub loop-child-preserved : goal.loop-child-preserved
loop-child-preserved g c =
    let rules = g.G.Game.rules c.args.game.now in
    let states = g.G.Game.states c.args.game.now c.args.children.now.many in
    let law = g.met.G.Game g.world.𝓛 g.world.𝓜 g.world.𝓡 ((λ _ x. x), (λ x. x), (λ x. x), λ x. x) in
    let old = c.loop-child.best in
    let child = c.loop-child.child in
    let here = value rules c.args.asked.role c.args.asked.depth c.args.asked.at (get_or states child []) in
    let few : here ≤ 100 = value_at_most rules c.args.asked.role (λ s r. law.goal_within c.args.game.now s r) c.args.asked.depth c.args.asked.at
    (get_or states child []) in
    let fits : SFits w16 old.worth = search facts in
    let answers : Answers here old.worth (pos 101) c.in_ok-worth.worth =
    rw (to_z-of_z w16 old.worth fits, c.loop-child.invariant.same.many) at c.in_ok-worth.ensures.answers in
    let bottom = answers.at_least in
    let top = answers.at_most in
    let range = c.loop-child.invariant.range in
    let r = c.in_ok-worth.worth in
    let fits_r : SFits w16 r = search facts in
    let same = to_z-of_z w16 r fits_r in
    let greater : c.better_of-best.result.worth ≡ int_max old.worth r = rw same at c.better_of-best.ensures.greater in
    let inside : child < length states = omega (arith, c.requires.children.ahead.count, c.loop-child-test.true) in
    let seen = c.loop-child.invariant.seen in
    record {
      kept = kept_then c.loop-child.invariant.kept c.child_above.ensures.kept;
      deep = omega arith;
      known = c.child_above.ensures.children;
      same = same_states_then c.loop-child.invariant.same c.child_above.ensures.same;
      range = (omega (arith, ints, clamps, range.0, range.1), omega (arith, ints, clamps, range.0, range.1));
      seen = omega (arith, seen, c.better_of-best.ensures.seen);
      best = λ own worths is.
          let is_here : here ≡ own old.seen = rw seen (worths child inside) in
          let before = c.loop-child.invariant.best own worths is in
          rw c.better_of-best.ensures.seen
          (c.better_of-best.ensures.best own (rw is_here at few) (rw same (rw is_here at answers)) before);
    }

pub returns-clause-best : goal.returns-clause-best
returns-clause-best g c own worths is =
    let seen : c.loop-child.best.seen ≡ c.args.best.seen + length (g.G.Game.states c.args.game.now c.args.children.now.many) =
    omega (arith, c.loop-child.invariant.seen, c.requires.children.ahead.count, c.loop-child-test.false) in
    record { seen = seen; best = rw (← seen) (c.loop-child.invariant.best own worths is) }

pub returns-in_err-worth-clause-kept : goal.returns-in_err-worth-clause-kept
returns-in_err-worth-clause-kept g c = kept_then c.loop-child.invariant.kept c.child_above.ensures.kept

pub returns-in_err-worth-clause-same : goal.returns-in_err-worth-clause-same
returns-in_err-worth-clause-same g c = same_states_then c.loop-child.invariant.same c.child_above.ensures.same
