use Rattle.std.proofs.Common.{◌≡◌, ◌∙◌, w16, rules as facts, None}
use Rattle.std.proofs.lemmas.Int.{to_z-of_z}
use mir.Val.{SFits}
use Rattle.statement.specs.Value.{value, choice_of}
use Rattle.maximin.proofs.Facts.{value_at_most}
use Rattle.program_searches.proofs.Exact.{exact_answer}
use Rattle.program_searches.proofs.finding.found_in.Goals as goal

pub returns-then-asked-eq0-clause-found : goal.returns-then-asked-eq0-clause-found
returns-then-asked-eq0-clause-found g c =
    let rules = g.G.Game.rules c.args.game.now in
    let state = g.G.Game.state c.args.game.now c.args.here.now in
    let asked = c.args.asked in
    let law = g.met.G.Game g.world.𝓛 g.world.𝓜 g.world.𝓡 ((λ _ x. x), (λ x. x), (λ x. x), λ x. x) in
    let r = c.value_in-value.result in
    let fits : SFits w16 r = search facts in
    let few = value_at_most rules asked.role (λ t k. law.goal_within c.args.game.now t k) asked.depth asked.at state in
    let none : None ≡ choice_of rules asked.role asked.depth asked.at state = search facts in
    record {
      value_is = to_z-of_z w16 r fits ∙ exact_answer (value rules asked.role asked.depth asked.at state) r few c.value_in-value.ensures.answers;
      choice_is = none;
    }
