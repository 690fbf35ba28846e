use Rattle.game.proofs.Facts.{value_within}
use Rattle.search_table.proofs.shared_table.SharedTable.find.Goals as goal

pub returns-in_default : goal.returns-in_default
returns-in_default g c = let law = g.met.G.Game g.world.𝓛 g.world.𝓜 g.world.𝓡 ((λ _ x. x), (λ x. x), (λ x. x), λ x. x) in
    let game = c.args.self.now.table.shared.key in let role = c.args.asked.role in
    c.nothing_known.ensures _ _ (λ d. value_within (g.G.Game.rules game) role (λ s. law.goal_within game s role) d _ _)
