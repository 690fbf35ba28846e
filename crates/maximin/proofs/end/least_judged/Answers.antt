use Rattle.std.proofs.Common.{◌≡◌, ℕ, ◌≤◌, [], List, get_or, arith, ◌∙◌, ap, w16, below_more, rules as facts}
use Rattle.std.proofs.lemmas.Int.{to_z-of_z}
use mir.Val.{SFits, of_z, to_z}
use Rattle.std.specs.Prelude.{pos, ◌≤ℤ◌, map}
use Rattle.std.specs.Int.{int_min}
use Rattle.game.specs.Value.{Answers}
use Rattle.statement.specs.Value.{value, least}
use Rattle.maximin.proofs.Windows.{exact, lowered_least, lowered_seen, lowered_now, lowered_below, cut_below, le_z_true}
use Rattle.maximin.proofs.Runs.{least_worth_below, least_worth_reached}
use Rattle.maximin.proofs.end.least_judged.Goals as goal

pub loop-place-preserved : goal.loop-place-preserved
loop-place-preserved g c =
    let worth : List ℕ → ℕ = value (g.G.Game.rules c.args.game.now) c.args.asked.role c.args.asked.depth c.args.asked.at in
    let states = g.G.Game.judged c.args.game.now c.args.wide.now in
    let all = least (map worth states) in
    let here = worth (get_or states c.loop-place.place []) in
    let a = c.args.window.low in
    let ea : to_z w16 (of_z w16 a) ≡ a = to_z-of_z w16 a (search facts) in
    let b = c.args.window.high in
    let eb : to_z w16 (of_z w16 b) ≡ b = to_z-of_z w16 b (search facts) in
    let r = c.judged_worth.result in
    let upper = to_z w16 c.loop-place.upper-bits in
    let fits_r : SFits w16 r = search facts in
    let fits_m : SFits w16 c.min-upper.result = search facts in
    let lowered : to_z w16 (of_z w16 c.min-upper.result) ≡ int_min upper r =
    to_z-of_z w16 c.min-upper.result fits_m ∙ c.min-upper.ensures.value ∙ ap (λ z. int_min upper z) (to_z-of_z w16 r fits_r) in
    let answers : Answers here a upper r = exact here a upper r c.judged_worth.ensures in
    let part : all ≤ here = least_worth_below worth states c.loop-place.place (omega (arith, c.requires.count, c.loop-place-test.true)) in
    record {
      below = rw lowered (lowered_below b upper r c.loop-place.invariant.below);
      at_least = rw lowered (lowered_least all here a b upper r part c.loop-place.invariant.at_least c.loop-place.invariant.below answers);
      seen = below_more _ _
          (λ k lt. rw lowered (lowered_seen (worth (get_or states k [])) a upper r (c.loop-place.invariant.seen k lt)))
          (rw lowered (lowered_now here a upper r answers));
    }

pub returns-then-upper-window : goal.returns-then-upper-window
returns-then-upper-window g c =
    let worth : List ℕ → ℕ = value (g.G.Game.rules c.args.game.now) c.args.asked.role c.args.asked.depth c.args.asked.at in
    let states = g.G.Game.judged c.args.game.now c.args.wide.now in
    let all = least (map worth states) in
    let here = worth (get_or states c.loop-place.place []) in
    let a = c.args.window.low in
    let ea : to_z w16 (of_z w16 a) ≡ a = to_z-of_z w16 a (search facts) in
    let b = c.args.window.high in
    let eb : to_z w16 (of_z w16 b) ≡ b = to_z-of_z w16 b (search facts) in
    let r = c.judged_worth.result in
    let upper = to_z w16 c.loop-place.upper-bits in
    let fits_r : SFits w16 r = search facts in
    let fits_m : SFits w16 c.min-upper.result = search facts in
    let lowered : to_z w16 (of_z w16 c.min-upper.result) ≡ int_min upper r =
    to_z-of_z w16 c.min-upper.result fits_m ∙ c.min-upper.ensures.value ∙ ap (λ z. int_min upper z) (to_z-of_z w16 r fits_r) in
    let answers : Answers here a upper r = exact here a upper r c.judged_worth.ensures in
    let part : all ≤ here = least_worth_below worth states c.loop-place.place (omega (arith, c.requires.count, c.loop-place-test.true)) in
    let low : int_min (pos all) b ≤ℤ int_min upper r = lowered_least all here a b upper r part c.loop-place.invariant.at_least
    c.loop-place.invariant.below answers in
    rw lowered (cut_below all a b (int_min upper r) (rw (lowered, ea) at (le_z_true (to_z w16 (of_z w16 c.min-upper.result)) (to_z w16 (of_z w16 a)) c.if-upper-window.true)) low)

pub returns : goal.returns
returns g c =
    let worth : List ℕ → ℕ = value (g.G.Game.rules c.args.game.now) c.args.asked.role c.args.asked.depth c.args.asked.at in
    let states = g.G.Game.judged c.args.game.now c.args.wide.now in
    let a = c.args.window.low in
    let ea : to_z w16 (of_z w16 a) ≡ a = to_z-of_z w16 a (search facts) in
    let b = c.args.window.high in
    let eb : to_z w16 (of_z w16 b) ≡ b = to_z-of_z w16 b (search facts) in
    let bottom = least_worth_reached worth states (omega (arith, c.requires.count, c.requires.some)) in
    record {
      at_least = c.loop-place.invariant.at_least;
      at_most = rw bottom.2 at (c.loop-place.invariant.seen bottom.0 (omega (arith, bottom.1, c.requires.count, c.loop-place-test.false)));
    }
