use Rattle.std.proofs.Common.{ℕ, List, sym, subst}
use Rattle.statement.specs.declared.at_bound.AtBound.{AtBound}
use Rattle.statement.specs.Rules.{Rules, State}
use Rattle.search_table.specs.declared.position_table.PositionTable.{PositionTable}
use Rattle.search_table.specs.Tables.{IsTableOf}
use Rattle.maximin.proofs.memory.own_positions.Goals as goal

-- a table is of the role and the bound that it says
own : (g : Rules) (keyed : List ℕ → State) (role : ℕ) (at : AtBound) (t : PositionTable) → IsTableOf g keyed role at t
    → IsTableOf g keyed t.role t.at t
own g keyed role at t h =
    subst (λ (r : ℕ). IsTableOf g keyed r t.at t) (sym h.of_role) (subst (λ (a : AtBound). IsTableOf g keyed role a t) (sym h.of_bound) h)

pub returns-in-Ok : goal.returns-in-Ok
returns-in-Ok g c =
    let law = g.met.G.Game g.world.𝓛 g.world.𝓜 g.world.𝓡 ((λ _ x. x), (λ x. x), (λ x. x), λ x. x) in
    let rules = g.G.Game.rules c.args.game.now in
    let role = c.args.asked.role in
    own rules (g.G.Game.keyed c.args.game.now) role c.args.asked.at c.in-Ok.table
    (c.in-Ok.ensures rules (g.G.Game.keyed c.args.game.now) (λ s. law.goal_within c.args.game.now s role))
