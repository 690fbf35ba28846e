use Rattle.std.proofs.Common.{ℕ, List, Option, ◌++◌, ◌∙◌, ap, codes}
use Rattle.statement.specs.Checking.{count_line}
use Rattle.statement.specs.Within.{first_at_least, own_line}
use Rattle.program_searches.specs.Histories.{named}
use Rattle.program_searches.proofs.FirstMoves.{first_within}
use Rattle.program_searches.proofs.windowed.above_lines.Goals as goal

pub add_own-requires-clause-own : goal.add_own-requires-clause-own
add_own-requires-clause-own g c κs within =
    let law = g.met.G.Game g.world.𝓛 g.world.𝓜 g.world.𝓡 ((λ _ x. x), (λ x. x), (λ x. x), λ x. x) in
    rw c.first_at_least-own.ensures.first (first_within (g.G.Game.rules c.args.game.now) (λ s r below. law.legal_within c.args.game.now s r below)
    c.args.asked.role c.args.asked.depth c.args.asked.at c.args.bound (g.G.Game.state c.args.game.now c.args.here.now) c.requires.room.role)

pub returns-clause-lines : goal.returns-clause-lines
returns-clause-lines g c =
    let game = named (g.G.Game.rules c.args.game.now) (g.G.Game.role_name c.args.game.now) (g.G.Game.move_name c.args.game.now) in
    let asked = c.args.asked in
    let first = first_at_least game.rules asked.role asked.depth asked.at c.args.bound (g.G.Game.state c.args.game.now c.args.here.now) in
    c.in_ok-add_own.ensures
    ∙ ap (λ (o : Option ℕ). c.add_count.new.output.items ++ own_line game asked.role o) c.first_at_least-own.ensures.first
    ∙ ap (λ (xs : List ℕ). xs ++ own_line game asked.role first)
    (c.in_ok-add_count.ensures ∙ ap (λ (xs : List ℕ). xs ++ count_line (codes "at-least") c.args.bound) c.new-output.ensures.items)
