use Rattle.std.proofs.Common.{◌≡◌, ℕ, ◌<◌, ◌-◌, length, get_or}
use Rattle.statement.specs.Value.{value}
use Rattle.maximin.specs.Tools.{AreKept}
use Rattle.maximin.proofs.Best.{worst_at_place}
use Rattle.maximin.proofs.known.try_choice_worth.Given as goal

-- no move before the one at hand attains the value
abbrev pub invariant-loop-further : goal.invariant-loop-further
invariant-loop-further g l =
    let rules = g.G.Game.rules l.game in
    let state = g.G.Game.state l.game l.from in
    record {
      kept : AreKept g.G.Game l.game l.fn.tools l.initial.levels l.tools l.levels;
      deep : length l.levels ≡ length l.initial.levels;
      in_list : l.place < length (rules.legal state l.asked.role);
      here : get_or (rules.legal state l.asked.role) l.place 0 ≡ l.own;
      before : (k : ℕ) → k < l.place → worst_at_place rules l.asked.role l.asked.depth l.asked.at state k < value rules l.asked.role l.asked.depth
          l.asked.at state;
    }

abbrev pub decreases-loop-further : goal.decreases-loop-further
decreases-loop-further g l = length ((g.G.Game.rules l.game).legal (g.G.Game.state l.game l.from) l.asked.role) - l.place
