use Rattle.std.proofs.Common.{◌≡◌, ℕ, ◌<◌, ◌≤◌, ◌-◌, length, false}
use Rattle.std.specs.Prelude.{nat_le}
use Rattle.maximin.specs.Tools.{AreKept}
use Rattle.maximin.proofs.Best.{worst_at_place}
use Rattle.maximin.proofs.bounded.first_reaching.Given as goal

-- no move before this place makes sure of the bound
abbrev pub invariant-loop-own : goal.invariant-loop-own
invariant-loop-own g l =
    let rules = g.G.Game.rules l.game in
    let state = g.G.Game.state l.game l.from in
    record {
      kept : AreKept g.G.Game l.game l.fn.tools l.initial.levels l.tools l.levels;
      deep : length l.levels ≡ length l.initial.levels;
      within : l.place ≤ length (rules.legal state l.asked.role);
      before : (k : ℕ) → k < l.place → nat_le l.bound (worst_at_place rules l.asked.role l.asked.depth l.asked.at state k) ≡ false;
    }

abbrev pub decreases-loop-own : goal.decreases-loop-own
decreases-loop-own g l = length ((g.G.Game.rules l.game).legal (g.G.Game.state l.game l.from) l.asked.role) - l.place
