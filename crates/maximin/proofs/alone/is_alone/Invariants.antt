use Rattle.std.proofs.Common.{◌≢◌, ℕ, ◌<◌, ◌≤◌, length}
use Rattle.maximin.proofs.alone.is_alone.Given as goal

abbrev pub invariant-loop-other : goal.invariant-loop-other
invariant-loop-other g l = (q : ℕ) → q < l.other → q ≢ l.role → length ((g.G.Game.rules l.game).legal (g.G.Game.state l.game l.from) q) ≤ 1
