use Rattle.std.proofs.Common.{◌≡◌, ◌∙◌, ap, w16, rules as facts}
use Rattle.std.proofs.lemmas.Int.{to_z-of_z}
use mir.Val.{of_z, to_z}
use Rattle.std.specs.Prelude.{ℤ, pos, ◌+ℤ◌}
use Rattle.statement.specs.Value.{value}
use Rattle.statement.specs.declared.at_bound.AtBound.TheVariants.{Unfinished}
use Rattle.statement.specs.Deepening.{greatest_worth}
use Rattle.maximin.proofs.Facts.{value_at_most}
use Rattle.program_searches.proofs.Settles.{most_is, window_above, fits_above}
use Rattle.program_searches.proofs.settling.is_most.Goals as goal

pub overflow_add-worth : goal.overflow_add-worth
overflow_add-worth g c =
    let rules = g.G.Game.rules c.args.game.now in
    let state = g.G.Game.state c.args.game.now c.args.here.now in
    let asked = c.args.asked in
    let law = g.met.G.Game g.world.𝓛 g.world.𝓜 g.world.𝓡 ((λ _ x. x), (λ x. x), (λ x. x), λ x. x) in
    let few = value_at_most rules asked.role (λ t k. law.goal_within c.args.game.now t k) asked.depth asked.at state in
    let v = value rules asked.role asked.depth asked.at state in
    let z = to_z w16 (of_z w16 c.args.worth) in
    let is : z ≡ pos v = to_z-of_z w16 c.args.worth c.ranges.worth ∙ c.requires.worth in
    fits_above v z few is

pub value_in-found-requires-clause-window : goal.value_in-found-requires-clause-window
value_in-found-requires-clause-window g c κs within =
    let rules = g.G.Game.rules c.args.game.now in
    let state = g.G.Game.state c.args.game.now c.args.here.now in
    let asked = c.args.asked in
    let law = g.met.G.Game g.world.𝓛 g.world.𝓜 g.world.𝓡 ((λ _ x. x), (λ x. x), (λ x. x), λ x. x) in
    let few = value_at_most rules asked.role (λ t k. law.goal_within c.args.game.now t k) asked.depth asked.at state in
    let v = value rules asked.role asked.depth asked.at state in
    let z = to_z w16 (of_z w16 c.args.worth) in
    let is : z ≡ pos v = to_z-of_z w16 c.args.worth c.ranges.worth ∙ c.requires.worth in
    let more : to_z w16 (of_z w16 (z +ℤ pos 1)) ≡ z +ℤ pos 1 = to_z-of_z w16 (z +ℤ pos 1) (fits_above v z few is) in
    window_above v _ _ few is (more ∙ ap (λ (y : ℤ). y +ℤ pos 1) is)

pub returns-clause-most : goal.returns-clause-most
returns-clause-most g c =
    let rules = g.G.Game.rules c.args.game.now in
    let state = g.G.Game.state c.args.game.now c.args.here.now in
    let asked = c.args.asked in
    let law = g.met.G.Game g.world.𝓛 g.world.𝓜 g.world.𝓡 ((λ _ x. x), (λ x. x), (λ x. x), λ x. x) in
    let few = value_at_most rules asked.role (λ t k. law.goal_within c.args.game.now t k) asked.depth asked.at state in
    let v = value rules asked.role asked.depth asked.at state in
    let z = to_z w16 (of_z w16 c.args.worth) in
    let is : z ≡ pos v = to_z-of_z w16 c.args.worth c.ranges.worth ∙ c.requires.worth in
    let more : to_z w16 (of_z w16 (z +ℤ pos 1)) ≡ z +ℤ pos 1 = to_z-of_z w16 (z +ℤ pos 1) (fits_above v z few is) in
    let r = c.value_in-found.result in
    let same : to_z w16 (of_z w16 r) ≡ r = to_z-of_z w16 r (search facts) in
    rw same (most_is v (value rules asked.role asked.depth (Unfinished greatest_worth) state) _ _ r is (more ∙ ap (λ (y : ℤ). y +ℤ pos 1) is)
    (rw c.greatest.ensures at c.value_in-found.ensures.answers))
