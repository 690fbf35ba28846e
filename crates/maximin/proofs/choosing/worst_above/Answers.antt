use Rattle.std.proofs.Common.{◌≡◌, ◌≤◌, ◌∙◌, ap, refl, arith, w16, rules as facts}
use Rattle.std.proofs.lemmas.Int.{to_z-of_z, ints, clamps}
use mir.Val.{SFits, of_z, to_z}
use Rattle.std.specs.Prelude.{pos}
use Rattle.std.specs.Int.{int_max}
use Rattle.statement.specs.Value.{worst}
use Rattle.maximin.proofs.Bounds.{worst_at_most}
use Rattle.maximin.proofs.Beside.{within_goals}
use Rattle.maximin.proofs.Windows.{le_z_true}
use Rattle.maximin.proofs.choosing.worst_above.Goals as goal

pub returns-then-low-ge-GREATEST-clause-answers : goal.returns-then-low-ge-GREATEST-clause-answers
returns-then-low-ge-GREATEST-clause-answers g c =
    let rules = g.G.Game.rules c.args.game.now in
    let state = g.G.Game.state c.args.game.now c.args.from.now in
    let worth = worst rules c.args.asked.role c.args.asked.depth c.args.asked.at state c.args.own in
    let law = g.met.G.Game g.world.𝓛 g.world.𝓜 g.world.𝓡 ((λ _ x. x), (λ x. x), (λ x. x), λ x. x) in
    let few : worth ≤ 100 = worst_at_most rules c.args.asked.role (λ s r. law.goal_within c.args.game.now s r) c.args.asked.depth c.args.asked.at state
    c.args.own in
    let low = to_z w16 (of_z w16 c.max-low.result) in
    let fits_low : SFits w16 c.max-low.result = search facts in
    let low_is : low ≡ int_max c.args.best (pos 0) =
    to_z-of_z w16 c.max-low.result fits_low ∙ c.max-low.ensures.value ∙ ap (λ z. int_max z (pos 0)) (to_z-of_z w16 c.args.best c.ranges.best) in
    let top = le_z_true (pos 100) low c.if-low-ge-GREATEST.true in
    let few_best = c.requires.best.1 in
    record { at_least = omega (arith, ints, clamps); at_most = omega (arith, ints, clamps) }

pub returns-clause-answers : goal.returns-clause-answers
returns-clause-answers g c =
    let rules = g.G.Game.rules c.args.game.now in
    let state = g.G.Game.state c.args.game.now c.args.from.now in
    let worth = worst rules c.args.asked.role c.args.asked.depth c.args.asked.at state c.args.own in
    let law = g.met.G.Game g.world.𝓛 g.world.𝓜 g.world.𝓡 ((λ _ x. x), (λ x. x), (λ x. x), λ x. x) in
    let few : worth ≤ 100 = worst_at_most rules c.args.asked.role (λ s r. law.goal_within c.args.game.now s r) c.args.asked.depth c.args.asked.at state
    c.args.own in
    let low = to_z w16 (of_z w16 c.max-low.result) in
    let fits_low : SFits w16 c.max-low.result = search facts in
    let low_is : low ≡ int_max c.args.best (pos 0) =
    to_z-of_z w16 c.max-low.result fits_low ∙ c.max-low.ensures.value ∙ ap (λ z. int_max z (pos 0)) (to_z-of_z w16 c.args.best c.ranges.best) in
    let r = c.in_ok-answer.answer.worth in
    let fits : SFits w16 r = search facts in
    rw (to_z-of_z w16 r fits) (within_goals worth c.args.best (pos 101) low (pos 100) r few low_is refl c.in_ok-answer.ensures.answers.now)
