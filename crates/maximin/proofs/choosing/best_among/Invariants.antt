use Rattle.std.proofs.Common.{◌≡◌, ◌+◌, ◌<◌, ◌<ℤ◌, ◌≤ℤ◌, ℕ, pos, negsuc, [], length, get_or}
use Rattle.statement.specs.Value.{value}
use Rattle.maximin.specs.Best.{IsBest}
use Rattle.maximin.specs.Children.{AreLookedAt, AreSameStates}
use Rattle.maximin.specs.Tools.{AreKept}
use Rattle.maximin.proofs.choosing.best_among.Given as goal

abbrev pub invariant-loop-child : goal.invariant-loop-child
invariant-loop-child g l =
    let rules = g.G.Game.rules l.game in
    let states = g.G.Game.states l.game l.fn.children.many in
    let worth = value rules l.asked.role l.asked.depth l.asked.at in
    record {
      kept : AreKept g.G.Game l.game l.fn.tools l.initial.levels l.tools l.levels;
      deep : length l.levels ≡ length l.initial.levels;
      known : AreLookedAt g.G.Game l.game l.asked l.children;
      same : AreSameStates g.G.Game l.game l.fn.children l.children;
      range : (negsuc 0 ≤ℤ l.best.worth) × (l.best.worth <ℤ pos 101);
      seen : l.best.seen ≡ l.fn.best.seen + l.child;
      best : (own : ℕ → ℕ) → ((k : ℕ) → k < length states → worth (get_or states k []) ≡ own (l.fn.best.seen + k))
          → IsBest own l.fn.best.seen l.fn.best.worth l.fn.best.place → IsBest own l.best.seen l.best.worth l.best.place;
    }
