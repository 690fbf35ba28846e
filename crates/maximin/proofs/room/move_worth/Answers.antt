use Rattle.std.proofs.Common.{w16, ◌-◌, ◌∙◌, rules as facts}
use Rattle.std.proofs.lemmas.Int.{to_z-of_z}
use mir.Val.{SFits}
use Rattle.statement.specs.Value.{worst}
use Rattle.maximin.proofs.Bounds.{worst_at_most}
use Rattle.maximin.proofs.Kept.{room_kept}
use Rattle.maximin.proofs.Reaching.{exact_worth}
use Rattle.maximin.proofs.room.move_worth.Goals as goal

pub returns-clause-worth : goal.returns-clause-worth
returns-clause-worth g c =
    let rules = g.G.Game.rules c.args.game.now in
    let state = g.G.Game.state c.args.game.now c.args.p.now in
    let law = g.met.G.Game g.world.𝓛 g.world.𝓜 g.world.𝓡 ((λ _ x. x), (λ x. x), (λ x. x), λ x. x) in
    let fits : SFits w16 c.worst_at.result = search facts in
    let worth = worst rules c.args.asked.role (c.args.asked.depth - 1) c.args.asked.at state c.args.own in
    let few = worst_at_most rules c.args.asked.role (λ s r. law.goal_within c.args.game.now s r) (c.args.asked.depth - 1) c.args.asked.at state c.args.own in
    to_z-of_z w16 c.worst_at.result fits ∙ exact_worth worth c.worst_at.result few c.worst_at.ensures.answers

pub returns-clause-room : goal.returns-clause-room
returns-clause-room g c = room_kept c.args.room.now c.worst_at.new.tools c.as_mut_slice-levels.result.now c.worst_at.new.levels
    c.as_mut_slice-levels.ensures.value c.worst_at.ensures.kept
