use Rattle.std.proofs.Common.{◌≡◌, ℕ, ◌≤◌, [], List, get_or, arith, ◌∙◌, ap, w16, below_more, rules as facts}
use Rattle.std.proofs.lemmas.Int.{to_z-of_z}
use mir.Val.{SFits, of_z, to_z}
use Rattle.std.specs.Prelude.{pos, ◌≤ℤ◌, map}
use Rattle.std.specs.Int.{int_max}
use Rattle.game.specs.Value.{Answers}
use Rattle.statement.specs.Value.{value, greatest}
use Rattle.maximin.proofs.Windows.{exact, raised_most, raised_seen, raised_now, raised_above, cut_above, le_z_true}
use Rattle.maximin.proofs.OwnTurns.{greatest_worth_above, greatest_worth_reached}
use Rattle.maximin.proofs.end.greatest_judged.Goals as goal

pub loop-place-preserved : goal.loop-place-preserved
loop-place-preserved g c =
    let worth : List ℕ → ℕ = value (g.G.Game.rules c.args.game.now) c.args.asked.role c.args.asked.depth c.args.asked.at in
    let states = g.G.Game.judged c.args.game.now c.args.wide.now in
    let all = greatest (map worth states) in
    let here = worth (get_or states c.loop-place.place []) in
    let a = c.args.window.low in
    let ea : to_z w16 (of_z w16 a) ≡ a = to_z-of_z w16 a (search facts) in
    let b = c.args.window.high in
    let eb : to_z w16 (of_z w16 b) ≡ b = to_z-of_z w16 b (search facts) in
    let r = c.judged_worth.result in
    let lower = to_z w16 c.loop-place.lower-bits in
    let fits_r : SFits w16 r = search facts in
    let fits_m : SFits w16 c.max-lower.result = search facts in
    let raised : to_z w16 (of_z w16 c.max-lower.result) ≡ int_max lower r =
    to_z-of_z w16 c.max-lower.result fits_m ∙ c.max-lower.ensures.value ∙ ap (λ z. int_max lower z) (to_z-of_z w16 r fits_r) in
    let answers : Answers here lower b r = exact here lower b r c.judged_worth.ensures in
    let part : here ≤ all = greatest_worth_above worth states c.loop-place.place (omega (arith, c.requires.count, c.loop-place-test.true)) in
    record {
      above = rw raised (raised_above a lower r c.loop-place.invariant.above);
      at_most = rw raised (raised_most all here a b lower r part c.loop-place.invariant.at_most answers);
      seen = below_more _ _
          (λ k lt. rw raised (raised_seen (worth (get_or states k [])) b lower r (c.loop-place.invariant.seen k lt)))
          (rw raised (raised_now here b lower r answers));
    }

pub returns-then-lower-window : goal.returns-then-lower-window
returns-then-lower-window g c =
    let worth : List ℕ → ℕ = value (g.G.Game.rules c.args.game.now) c.args.asked.role c.args.asked.depth c.args.asked.at in
    let states = g.G.Game.judged c.args.game.now c.args.wide.now in
    let all = greatest (map worth states) in
    let here = worth (get_or states c.loop-place.place []) in
    let a = c.args.window.low in
    let ea : to_z w16 (of_z w16 a) ≡ a = to_z-of_z w16 a (search facts) in
    let b = c.args.window.high in
    let eb : to_z w16 (of_z w16 b) ≡ b = to_z-of_z w16 b (search facts) in
    let r = c.judged_worth.result in
    let lower = to_z w16 c.loop-place.lower-bits in
    let fits_r : SFits w16 r = search facts in
    let fits_m : SFits w16 c.max-lower.result = search facts in
    let raised : to_z w16 (of_z w16 c.max-lower.result) ≡ int_max lower r =
    to_z-of_z w16 c.max-lower.result fits_m ∙ c.max-lower.ensures.value ∙ ap (λ z. int_max lower z) (to_z-of_z w16 r fits_r) in
    let answers : Answers here lower b r = exact here lower b r c.judged_worth.ensures in
    let part : here ≤ all = greatest_worth_above worth states c.loop-place.place (omega (arith, c.requires.count, c.loop-place-test.true)) in
    let most : int_max lower r ≤ℤ int_max (pos all) a = raised_most all here a b lower r part c.loop-place.invariant.at_most answers in
    rw raised (cut_above all a b (int_max lower r) (rw (raised, eb) at (le_z_true (to_z w16 (of_z w16 b)) (to_z w16 (of_z w16 c.max-lower.result)) c.if-lower-window.true)) most)

pub returns : goal.returns
returns g c =
    let worth : List ℕ → ℕ = value (g.G.Game.rules c.args.game.now) c.args.asked.role c.args.asked.depth c.args.asked.at in
    let states = g.G.Game.judged c.args.game.now c.args.wide.now in
    let a = c.args.window.low in
    let ea : to_z w16 (of_z w16 a) ≡ a = to_z-of_z w16 a (search facts) in
    let b = c.args.window.high in
    let eb : to_z w16 (of_z w16 b) ≡ b = to_z-of_z w16 b (search facts) in
    let top = greatest_worth_reached worth states (omega (arith, c.requires.count, c.requires.some)) in
    record {
      at_least = rw top.2 at (c.loop-place.invariant.seen top.0 (omega (arith, top.1, c.requires.count, c.loop-place-test.false)));
      at_most = c.loop-place.invariant.at_most;
    }
