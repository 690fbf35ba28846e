use Rattle.std.proofs.Common.{◌≡◌, ◌<◌, ◌≤◌, length, get_or, refl, arith, w16, rules as facts}
use Rattle.std.proofs.lemmas.Int.{to_z-of_z}
use mir.Val.{SFits}
use Rattle.std.specs.Prelude.{pos}
use Rattle.game.specs.Value.{Answers}
use Rattle.maximin.specs.Best.{own_worth}
use Rattle.maximin.proofs.Bounds.{worst_at_most}
use Rattle.maximin.proofs.Best.{best_none}
use Rattle.game.proofs.Facts.{legal_known, legal_place, legal_count, none_past}
use Rattle.maximin.proofs.Kept.{kept_at_first, kept_then}
use Rattle.maximin.proofs.choosing.best_of_each.Goals as goal

pub loop-own-init : goal.loop-own-init
loop-own-init g c =
    let rules = g.G.Game.rules c.args.game.now in
    let state = g.G.Game.state c.args.game.now c.args.from.now in
    record {
      kept = kept_at_first c.requires.fit;
      deep = refl;
      in_list = omega (arith, c.no_best-best.ensures.seen);
      is_best = rw (c.no_best-best.ensures.seen, c.no_best-best.ensures.worth, c.no_best-best.ensures.place)
          (best_none (own_worth rules c.args.asked.role c.args.asked.depth c.args.asked.at state));
    }

pub worst_above-requires-clause-own : goal.worst_above-requires-clause-own
worst_above-requires-clause-own g c κs within =
    let rules = g.G.Game.rules c.args.game.now in
    let state = g.G.Game.state c.args.game.now c.args.from.now in
    let law = g.met.G.Game g.world.𝓛 g.world.𝓜 g.world.𝓡 ((λ _ x. x), (λ x. x), (λ x. x), λ x. x) in
    legal_known rules state c.args.asked.role c.loop-own.best.seen c.in-Some.own c.legal.result
    (law.legal_within c.args.game.now state c.args.asked.role c.requires.fit.role) c.legal.ensures c.in-Some.is

pub worst_above-requires-clause-best : goal.worst_above-requires-clause-best
worst_above-requires-clause-best g c κs within =
    let fits : SFits w16 c.loop-own.best.worth = search facts in
    rw (to_z-of_z w16 c.loop-own.best.worth fits) (c.loop-own.invariant.is_best.low, c.loop-own.invariant.is_best.high)

pub better_of-best-requires : goal.better_of-best-requires
better_of-best-requires g c =
    let rules = g.G.Game.rules c.args.game.now in
    let state = g.G.Game.state c.args.game.now c.args.from.now in
    let here = legal_place rules state c.args.asked.role c.loop-own.best.seen c.in-Some.own c.legal.result c.legal.ensures c.in-Some.is in
    let law = g.met.G.Game g.world.𝓛 g.world.𝓜 g.world.𝓡 ((λ _ x. x), (λ x. x), (λ x. x), λ x. x) in
    let few = legal_count rules state c.args.asked.role (law.legal_ascending c.args.game.now state c.args.asked.role c.requires.fit.role)
    (law.legal_within c.args.game.now state c.args.asked.role c.requires.fit.role)
    (law.moves_within c.args.game.now c.args.asked.role c.requires.fit.role) in
    omega (arith, here.0)

pub loop-own-smaller : goal.loop-own-smaller
loop-own-smaller g c =
    let rules = g.G.Game.rules c.args.game.now in
    let state = g.G.Game.state c.args.game.now c.args.from.now in
    let here = legal_place rules state c.args.asked.role c.loop-own.best.seen c.in-Some.own c.legal.result c.legal.ensures c.in-Some.is in
    let inside : c.loop-own.best.seen < length (rules.legal state c.args.asked.role) = here.0 in
    omega (arith, c.better_of-best.ensures.seen)

pub loop-own-preserved : goal.loop-own-preserved
loop-own-preserved g c =
    let rules = g.G.Game.rules c.args.game.now in
    let state = g.G.Game.state c.args.game.now c.args.from.now in
    let here = legal_place rules state c.args.asked.role c.loop-own.best.seen c.in-Some.own c.legal.result c.legal.ensures c.in-Some.is in
    let law = g.met.G.Game g.world.𝓛 g.world.𝓜 g.world.𝓡 ((λ _ x. x), (λ x. x), (λ x. x), λ x. x) in
    let worth = own_worth rules c.args.asked.role c.args.asked.depth c.args.asked.at state in
    let old = c.loop-own.best in
    let r = c.in_ok-worth.worth in
    let few : worth c.loop-own.best.seen ≤ 100 =
    worst_at_most rules c.args.asked.role (λ s r. law.goal_within c.args.game.now s r) c.args.asked.depth c.args.asked.at state
    (get_or (rules.legal state c.args.asked.role) c.loop-own.best.seen 0) in
    let fits : SFits w16 old.worth = search facts in
    let fits_r : SFits w16 r = search facts in
    let same = to_z-of_z w16 r fits_r in
    let answers : Answers (worth c.loop-own.best.seen) old.worth (pos 101) r = rw (← here.1, to_z-of_z w16 old.worth fits) at
    c.in_ok-worth.ensures.answers in
    record {
      kept = kept_then c.loop-own.invariant.kept c.worst_above.ensures.kept;
      deep = omega arith;
      in_list = omega (arith, here.0, c.better_of-best.ensures.seen);
      is_best = rw c.better_of-best.ensures.seen (c.better_of-best.ensures.best worth few (rw same answers) c.loop-own.invariant.is_best);
    }

pub returns-clause-best : goal.returns-clause-best
returns-clause-best g c =
    let rules = g.G.Game.rules c.args.game.now in
    let state = g.G.Game.state c.args.game.now c.args.from.now in
    let past : length (rules.legal state c.args.asked.role) ≤ c.loop-own.best.seen = none_past (rules.legal state c.args.asked.role) c.loop-own.best.seen
    c.legal.result c.legal.ensures c.in_default.is in
    let all : c.loop-own.best.seen ≡ length (rules.legal state c.args.asked.role) = omega arith in
    rw all at c.loop-own.invariant.is_best

pub returns-in_err-worth-clause-kept : goal.returns-in_err-worth-clause-kept
returns-in_err-worth-clause-kept g c = kept_then c.loop-own.invariant.kept c.worst_above.ensures.kept
