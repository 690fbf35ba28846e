use Rattle.std.proofs.Common.{ℕ, ◌≤◌, arith}
use Rattle.game.proofs.Facts.{value_within}
use Rattle.statement.specs.Value.{value}
use Rattle.maximin.proofs.memory.unknown.Goals as goal

pub returns : goal.returns
returns g c = λ s.
    let law = g.met.G.Game g.world.𝓛 g.world.𝓜 g.world.𝓡 ((λ _ x. x), (λ x. x), (λ x. x), λ x. x) in
    let asked = c.args._asked in
    let few : (d : ℕ) → value (g.G.Game.rules c.args._game.now) asked.role d asked.at s ≤ 100 =
    λ d. value_within (g.G.Game.rules c.args._game.now) asked.role (λ s. law.goal_within c.args._game.now s asked.role) d asked.at s in
    record { within = (omega arith, few asked.depth); lasting = λ lasts d more. few d }
