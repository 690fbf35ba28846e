use Rattle.std.proofs.Common.{◌≡◌, ℕ, ◌≤◌, [], List, get_or, arith, ◌∙◌, ap, refl, w16, rules as facts}
use Rattle.std.proofs.lemmas.Int.{to_z-of_z}
use mir.Val.{SFits, of_z, to_z}
use Rattle.std.specs.Prelude.{map}
use Rattle.std.specs.Int.{int_max}
use Rattle.statement.specs.Value.{value, greatest}
use Rattle.maximin.proofs.Windows.{raised_above}
use Rattle.maximin.proofs.LastingLeaves.{told_high}
use Rattle.maximin.proofs.OwnTurns.{greatest_worth_above}
use Rattle.maximin.proofs.told.greatest_told.Goals as goal

pub loop-place-preserved : goal.loop-place-preserved
loop-place-preserved g c =
    let value_of : List ℕ → ℕ = value (g.G.Game.rules c.args.game.now) c.args.asked.role c.args.asked.depth c.args.asked.at in
    let states = g.G.Game.states c.args.game.now c.args.many.now in
    let all = greatest (map value_of states) in
    let here = value_of (get_or states c.loop-place.place []) in
    let a = to_z w16 (of_z w16 c.args.a) in
    let lower = to_z w16 c.loop-place.lower-bits in
    let found = c.unwrap_or-told.result in
    let worth = found.worth in
    let fits_r : SFits w16 worth = search facts in
    let fits_m : SFits w16 c.max-lower.result = search facts in
    let raised : to_z w16 (of_z w16 c.max-lower.result) ≡ int_max lower worth =
    to_z-of_z w16 c.max-lower.result fits_m ∙ c.max-lower.ensures.value ∙ ap (λ z. int_max lower z) (to_z-of_z w16 worth fits_r) in
    let part : here ≤ all = greatest_worth_above value_of states c.loop-place.place (omega (arith, c.requires.count, c.loop-place-test.true)) in
    rw raised record {
      at_least = raised_above a lower worth c.loop-place.invariant.at_least;
      at_most = told_high c.told_worth.result here all a lower _ found c.told_worth.ensures.worth part refl c.unwrap_or-told.ensures
          c.loop-place.invariant.at_most;
    }
