use Rattle.std.proofs.Common.{◌≡◌, ◌<◌, ℕ, [], length, get_or, arith, ◌∙◌, ap, w16, rules as facts}
use Rattle.std.proofs.lemmas.Int.{to_z-of_z}
use mir.Val.{SFits, of_z, to_z}
use Rattle.std.specs.Prelude.{map}
use Rattle.std.specs.Int.{int_max}
use Rattle.statement.specs.Value.{greatest}
use Rattle.statement.specs.Rules.{State}
use Rattle.maximin.proofs.Windows.{raised_above}
use Rattle.maximin.proofs.OwnTurns.{greatest_worth_above}
use Rattle.maximin.proofs.LeftWindows.{bound_high}
use Rattle.maximin.proofs.ahead.greatest_bound.Goals as goal

pub loop-place-preserved : goal.loop-place-preserved
loop-place-preserved c =
    let a = to_z w16 (of_z w16 c.args.a) in
    let lower = to_z w16 c.loop-place.lower-bits in
    let known = c.bounds_of-known.result in
    let bound = c.from.result in
    let fits_r : SFits w16 bound = search facts in
    let fits_m : SFits w16 c.max-lower.result = search facts in
    let moved : to_z w16 (of_z w16 c.max-lower.result) ≡ int_max lower bound =
    to_z-of_z w16 c.max-lower.result fits_m ∙ c.max-lower.ensures.value ∙ ap (λ z. int_max lower z) (to_z-of_z w16 bound fits_r) in
    rw moved record {
      at_least = raised_above a lower bound c.loop-place.invariant.at_least;
      at_most = λ states worth depth is.
          let worths : State → ℕ = λ s. worth s depth in
          let inside : c.loop-place.place < length states = omega (arith, c.loop-place-test.true, is.count) in
          let within = c.bounds_of-known.ensures states worth depth is inside in
          bound_high (worths (get_or states c.loop-place.place [])) (greatest (map worths states)) known.lo a lower bound
          (greatest_worth_above worths states c.loop-place.place inside) within.within.0 c.from.ensures
          (c.loop-place.invariant.at_most states worth depth is);
    }
