use Rattle.std.proofs.Common.{◌≡◌, ℕ, ◌<◌, ◌≤◌, [], List, length, get_or, arith, ◌∙◌, ap, refl, subst, w16, rules as facts}
use Rattle.std.proofs.lemmas.Int.{to_z-of_z}
use mir.Val.{SFits, of_z, to_z}
use Rattle.std.specs.Prelude.{ℤ, map}
use Rattle.std.specs.Int.{int_min}
use Rattle.statement.specs.Value.{value, least}
use Rattle.maximin.specs.Answer.{IsUpperBound}
use Rattle.maximin.specs.declared.answer.SearchAnswer.{SearchAnswer}
use Rattle.maximin.proofs.Lasting.{lesser_later}
use Rattle.maximin.proofs.LastingLeaves.{told_low, told_lasts}
use Rattle.maximin.proofs.Windows.{lowered_below}
use Rattle.maximin.proofs.Runs.{least_worth_below}
use Rattle.maximin.proofs.told.least_told.Goals as goal

pub returns-clause-upper : goal.returns-clause-upper
returns-clause-upper g c =
    let value_of : ℕ → List ℕ → ℕ = λ d. value (g.G.Game.rules c.args.game.now) c.args.asked.role d c.args.asked.at in
    let all : ℕ → ℕ = λ d. least (map (value_of d) (g.G.Game.states c.args.game.now c.args.many.now)) in
    let found : SearchAnswer = record { worth = to_z w16 c.loop-place.upper-bits; lasts = c.loop-place.lasts } in
    let is = c.loop-place.invariant in
    subst (λ (b : ℤ). IsUpperBound all c.args.asked.depth b found) (to_z-of_z w16 c.args.b (search facts))
    (record { now = is.at_least; later = is.later })

pub loop-place-preserved : goal.loop-place-preserved
loop-place-preserved g c =
    let value_of : ℕ → List ℕ → ℕ = λ d. value (g.G.Game.rules c.args.game.now) c.args.asked.role d c.args.asked.at in
    let states = g.G.Game.states c.args.game.now c.args.many.now in
    let place = c.loop-place.place in
    let all : ℕ → ℕ = λ d. least (map (value_of d) states) in
    let here : ℕ → ℕ = λ d. value_of d (get_or states place []) in
    let depth = c.args.asked.depth in
    let b = to_z w16 (of_z w16 c.args.b) in
    let upper = to_z w16 c.loop-place.upper-bits in
    let told = c.told_worth.result in
    let found = c.unwrap_or-told.result in
    let fits_r : SFits w16 found.worth = search facts in
    let fits_m : SFits w16 c.min-upper.result = search facts in
    let same : to_z w16 (of_z w16 found.worth) ≡ found.worth = to_z-of_z w16 found.worth fits_r in
    let lowered : to_z w16 (of_z w16 c.min-upper.result) ≡ int_min upper found.worth =
    to_z-of_z w16 c.min-upper.result fits_m ∙ c.min-upper.ensures.value ∙ ap (λ z. int_min upper z) same in
    let inside : place < length states = omega (arith, c.requires.count, c.loop-place-test.true) in
    let part : (d : ℕ) → all d ≤ here d = λ d. least_worth_below (value_of d) states place inside in
    let below = c.loop-place.invariant.at_most in
    rw lowered record {
      at_most = lowered_below b upper found.worth below;
      at_least = told_low told (here depth) (all depth) b upper _ found c.told_worth.ensures.worth (part depth) refl c.unwrap_or-told.ensures
          c.loop-place.invariant.at_least;
      later = λ lasts d more.
          lesser_later (all d) (here d) b upper found.worth c.loop-place.lasts found.lasts c.lesser_lasts-lasts.result c.lesser_lasts-lasts.ensures
          (λ e. c.loop-place.invariant.later e d more)
          (λ e. told_lasts told here b upper _ found c.told_worth.ensures.lasts refl below c.unwrap_or-told.ensures e d) (part d) below lasts;
    }
