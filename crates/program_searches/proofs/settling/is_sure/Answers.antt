use Rattle.std.proofs.Common.{◌≡◌, ◌∙◌, ap, w16, rules as facts}
use Rattle.std.proofs.lemmas.Int.{to_z-of_z}
use mir.Val.{of_z, to_z}
use Rattle.std.specs.Prelude.{ℤ, pos, ◌-ℤ◌}
use Rattle.statement.specs.Value.{value}
use Rattle.statement.specs.declared.at_bound.AtBound.TheVariants.{Zero}
use Rattle.maximin.proofs.Facts.{value_at_most}
use Rattle.program_searches.proofs.Settles.{sure_is, window_below, fits_below}
use Rattle.program_searches.proofs.settling.is_sure.Goals as goal

pub value_in-found-requires-clause-window : goal.value_in-found-requires-clause-window
value_in-found-requires-clause-window g c κs within =
    let rules = g.G.Game.rules c.args.game.now in
    let state = g.G.Game.state c.args.game.now c.args.here.now in
    let asked = c.args.asked in
    let law = g.met.G.Game g.world.𝓛 g.world.𝓜 g.world.𝓡 ((λ _ x. x), (λ x. x), (λ x. x), λ x. x) in
    let few = value_at_most rules asked.role (λ t k. law.goal_within c.args.game.now t k) asked.depth asked.at state in
    let v = value rules asked.role asked.depth asked.at state in
    let z = to_z w16 (of_z w16 c.args.worth) in
    let is : z ≡ pos v = to_z-of_z w16 c.args.worth c.ranges.worth ∙ c.requires.worth in
    let less : to_z w16 (of_z w16 (z -ℤ pos 1)) ≡ z -ℤ pos 1 = to_z-of_z w16 (z -ℤ pos 1) (fits_below v z few is) in
    window_below v _ _ few is (less ∙ ap (λ (y : ℤ). y -ℤ pos 1) is)

pub returns-clause-sure : goal.returns-clause-sure
returns-clause-sure g c =
    let rules = g.G.Game.rules c.args.game.now in
    let state = g.G.Game.state c.args.game.now c.args.here.now in
    let asked = c.args.asked in
    let law = g.met.G.Game g.world.𝓛 g.world.𝓜 g.world.𝓡 ((λ _ x. x), (λ x. x), (λ x. x), λ x. x) in
    let few = value_at_most rules asked.role (λ t k. law.goal_within c.args.game.now t k) asked.depth asked.at state in
    let v = value rules asked.role asked.depth asked.at state in
    let z = to_z w16 (of_z w16 c.args.worth) in
    let is : z ≡ pos v = to_z-of_z w16 c.args.worth c.ranges.worth ∙ c.requires.worth in
    let less : to_z w16 (of_z w16 (z -ℤ pos 1)) ≡ z -ℤ pos 1 = to_z-of_z w16 (z -ℤ pos 1) (fits_below v z few is) in
    let r = c.value_in-found.result in
    let same : to_z w16 (of_z w16 r) ≡ r = to_z-of_z w16 r (search facts) in
    rw same (sure_is v (value rules asked.role asked.depth Zero state) _ _ r is (less ∙ ap (λ (y : ℤ). y -ℤ pos 1) is) c.value_in-found.ensures.answers)
