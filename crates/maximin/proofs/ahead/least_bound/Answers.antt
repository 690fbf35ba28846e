use Rattle.std.proofs.Common.{◌≡◌, ◌<◌, ◌≤◌, ℕ, [], length, get_or, arith, ◌∙◌, ap, w16, rules as facts}
use Rattle.std.proofs.lemmas.Int.{to_z-of_z, ints}
use mir.Val.{SFits, of_z, to_z}
use Rattle.std.specs.Prelude.{map, ◌≤ℤ◌}
use Rattle.std.specs.Int.{int_min}
use Rattle.statement.specs.Rules.{State}
use Rattle.statement.specs.Value.{least}
use Rattle.maximin.proofs.Lasting.{lesser_later}
use Rattle.maximin.proofs.LastingLeaves.{bound_of}
use Rattle.maximin.proofs.Windows.{lowered_below}
use Rattle.maximin.proofs.Runs.{least_worth_below}
use Rattle.maximin.proofs.LeftWindows.{bound_low}
use Rattle.maximin.proofs.ahead.least_bound.Goals as goal

pub loop-place-preserved : goal.loop-place-preserved
loop-place-preserved c =
    let upper = to_z w16 c.loop-place.upper-bits in
    let place = c.loop-place.place in
    let known = c.bounds_of-known.result in
    let bound = to_z w16 (of_z w16 c.from.result) in
    let below = c.loop-place.invariant.at_most in
    let same : bound ≡ c.from.result = to_z-of_z w16 c.from.result (search facts) in
    let fits_m : SFits w16 c.min-upper.result = search facts in
    let moved : to_z w16 (of_z w16 c.min-upper.result) ≡ int_min upper bound =
    to_z-of_z w16 c.min-upper.result fits_m ∙ c.min-upper.ensures.value ∙ ap (λ z. int_min upper (to_z w16 (of_z w16 z))) same in
    rw moved record {
      at_most = lowered_below _ upper bound below;
      bound = λ states worth depth top is more old.
          let worths : ℕ → State → ℕ = λ d s. worth s d in
          let here : ℕ → ℕ = λ d. worth (get_or states place []) d in
          let all : ℕ → ℕ = λ d. least (map (worths d) states) in
          let inside : place < length states = omega (arith, c.loop-place-test.true, is.count) in
          let part : (d : ℕ) → all d ≤ here d = λ d. least_worth_below (worths d) states place inside in
          let bounds = c.bounds_of-known.ensures states worth depth is inside in
          let so_far = c.loop-place.invariant.bound states worth depth top is more old in
          let under : upper ≤ℤ top = omega (arith, ints, below, more) in
          record {
            now = bound_low (here depth) (all depth) known.hi top upper bound (part depth) bounds.within.1 (same ∙ c.from.ensures) so_far.now;
            later = λ lasts d later.
                lesser_later (all d) (here d) top upper bound c.loop-place.lasts known.lasts c.lesser_lasts-lasts.result
                c.lesser_lasts-lasts.ensures (λ e. so_far.later e d later)
                (λ e. bound_of (here d) known.hi upper bound (bounds.lasting e d later) (same ∙ c.from.ensures)) (part d) under lasts;
          };
    }
