use Rattle.std.proofs.Common.{◌≡◌, ℕ, ◌≤◌, ◌-◌, drop, length}
use Rattle.std.specs.Prelude.{find}
use Rattle.statement.specs.Tree.{text, name_eq}
use Rattle.kif.specs.View.{tree_of}
use Rattle.game.proofs.replaying.find_move.Given as goal

-- what is left to look at decides
abbrev pub invariant-loop-number : goal.invariant-loop-number
invariant-loop-number g l =
    let legal = (g.G.Game.rules l.game).legal (g.G.Game.state l.game l.p) l.role in
    let named = λ (m : ℕ). name_eq (text (tree_of l.part)) (g.G.Game.move_name l.game l.role m) in
    record { within : l.place ≤ length legal; left : find named legal ≡ find named (drop l.place legal) }

abbrev pub decreases-loop-number : goal.decreases-loop-number
decreases-loop-number g l = length ((g.G.Game.rules l.game).legal (g.G.Game.state l.game l.p) l.role) - l.place
