use Rattle.std.proofs.Common.{◌≡◌, ℕ, ◌<◌, length, false}
use Rattle.std.specs.Prelude.{◌==◌}
use Rattle.game.proofs.stuck.is_stuck.Given as goal

-- every role before this one has a legal move
abbrev pub invariant-loop-role : goal.invariant-loop-role
invariant-loop-role g l =
    let legal = (g.G.Game.rules l.game).legal (g.G.Game.state l.game l.p) in
    (k : ℕ) → k < l.role → (length (legal k) == 0) ≡ false
