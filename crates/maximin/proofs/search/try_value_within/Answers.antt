use Rattle.std.proofs.Common.{◌≡◌, ◌∙◌, ap, w16, rules as facts}
use Rattle.std.proofs.lemmas.Int.{to_z-of_z}
use mir.Val.{SFits, of_z, to_z}
use Rattle.std.specs.Prelude.{pos}
use Rattle.std.specs.Int.{int_min, int_max}
use Rattle.statement.specs.Value.{value}
use Rattle.maximin.proofs.Bounds.{value_at_most}
use Rattle.maximin.proofs.Windows.{le_z_true, le_z_false}
use Rattle.maximin.proofs.Beside.{within_goals, outside_goals, goals_window}
use Rattle.maximin.proofs.search.try_value_within.Goals as goal

pub returns-then-low-high-clause-answers : goal.returns-then-low-high-clause-answers
returns-then-low-high-clause-answers g c =
    let rules = g.G.Game.rules c.args.game.now in
    let state = g.G.Game.state c.args.game.now c.args.from.now in
    let law = g.met.G.Game g.world.𝓛 g.world.𝓜 g.world.𝓡 ((λ _ x. x), (λ x. x), (λ x. x), λ x. x) in
    let worth = value rules c.args.asked.role c.args.asked.depth c.args.asked.at state in
    let few = value_at_most rules c.args.asked.role (λ s r. law.goal_within c.args.game.now s r) c.args.asked.depth c.args.asked.at state in
    let low = to_z w16 (of_z w16 c.max-low.result) in
    let high = to_z w16 (of_z w16 c.min-high.result) in
    let fits_low : SFits w16 c.max-low.result = search facts in
    let fits_high : SFits w16 c.min-high.result = search facts in
    let low_is : low ≡ int_max c.args.window.low (pos 0) =
    to_z-of_z w16 c.max-low.result fits_low ∙ c.max-low.ensures.value ∙ ap (λ z. int_max z (pos 0)) (to_z-of_z w16 c.args.window.low (search facts)) in
    let high_is : high ≡ int_min c.args.window.high (pos 100) =
    to_z-of_z w16 c.min-high.result fits_high ∙ c.min-high.ensures.value ∙ ap (λ z. int_min z (pos 100)) (to_z-of_z w16 c.args.window.high (search facts)) in
    outside_goals worth c.args.window.low c.args.window.high low high few low_is high_is (le_z_true high low c.if-low-high.true)

pub returns-clause-answers : goal.returns-clause-answers
returns-clause-answers g c =
    let rules = g.G.Game.rules c.args.game.now in
    let state = g.G.Game.state c.args.game.now c.args.from.now in
    let law = g.met.G.Game g.world.𝓛 g.world.𝓜 g.world.𝓡 ((λ _ x. x), (λ x. x), (λ x. x), λ x. x) in
    let worth = value rules c.args.asked.role c.args.asked.depth c.args.asked.at state in
    let few = value_at_most rules c.args.asked.role (λ s r. law.goal_within c.args.game.now s r) c.args.asked.depth c.args.asked.at state in
    let low = to_z w16 (of_z w16 c.max-low.result) in
    let high = to_z w16 (of_z w16 c.min-high.result) in
    let fits_low : SFits w16 c.max-low.result = search facts in
    let fits_high : SFits w16 c.min-high.result = search facts in
    let low_is : low ≡ int_max c.args.window.low (pos 0) =
    to_z-of_z w16 c.max-low.result fits_low ∙ c.max-low.ensures.value ∙ ap (λ z. int_max z (pos 0)) (to_z-of_z w16 c.args.window.low (search facts)) in
    let high_is : high ≡ int_min c.args.window.high (pos 100) =
    to_z-of_z w16 c.min-high.result fits_high ∙ c.min-high.ensures.value ∙ ap (λ z. int_min z (pos 100)) (to_z-of_z w16 c.args.window.high (search facts)) in
    let r = c.in_ok-answer.answer.worth in
    let fits : SFits w16 r = search facts in
    rw (to_z-of_z w16 r fits)
    (within_goals worth c.args.window.low c.args.window.high low high r few low_is high_is c.in_ok-answer.ensures.answers.now)

pub try_known_at-requires-clause-window : goal.try_known_at-requires-clause-window
try_known_at-requires-clause-window g c κs within =
    let fits_low : SFits w16 c.max-low.result = search facts in
    let fits_high : SFits w16 c.min-high.result = search facts in
    let same_low = to_z-of_z w16 c.max-low.result fits_low in
    let same_high = to_z-of_z w16 c.min-high.result fits_high in
    goals_window c.args.window.low c.args.window.high _ _
    (same_low ∙ c.max-low.ensures.value ∙ ap (λ z. int_max z (pos 0)) (to_z-of_z w16 c.args.window.low (search facts)))
    (same_high ∙ c.min-high.ensures.value ∙ ap (λ z. int_min z (pos 100)) (to_z-of_z w16 c.args.window.high (search facts)))
    (le_z_false _ _ c.if-low-high.false)
