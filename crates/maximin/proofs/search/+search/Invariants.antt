use Rattle.std.proofs.Common.{◌≡◌, true, ℕ, ◌+◌, ◌*◌, ◌-◌, ◌<◌, ◌≤◌, length, take, List, [], ◌∷◌, get_or}
use Rattle.std.specs.List.{range_with_len}
use Rattle.std.specs.List.Sorted.{IsPermutation}
use Rattle.std.specs.Prelude.{pos, ◌<ℤ◌, ◌≤ℤ◌, map}
use Rattle.std.specs.Int.{int_min, int_max}
use Rattle.statement.specs.Rules.{choices}
use Rattle.statement.specs.Value.{value, worst, least, greatest}
use Rattle.maximin.specs.Turns.{StandsAt, later}
use Rattle.maximin.specs.Children.{AreLookedAt, AreSameStates}
use Rattle.maximin.specs.Tools.{AreKept}
use Rattle.maximin.specs.Level.{IsLevelOf, level_capacities}
use Rattle.maximin.proofs.search.+search.Given as goal

abbrev pub decreases-value_at : goal.decreases-value_at
decreases-value_at g l = 6 * l.asked.depth

abbrev pub decreases-try_child_at : goal.decreases-try_child_at
decreases-try_child_at g l = 6 * l.asked.depth + 2

abbrev pub decreases-try_known_at : goal.decreases-try_known_at
decreases-try_known_at g l = 6 * l.asked.depth + 1

abbrev pub decreases-try_worst_at : goal.decreases-try_worst_at
decreases-try_worst_at g l = 6 * l.asked.depth + 5

abbrev pub decreases-least_at : goal.decreases-least_at
decreases-least_at g l = 6 * l.asked.depth + 3

abbrev pub decreases-least_after : goal.decreases-least_after
decreases-least_after g l = 6 * l.asked.depth + 4

-- best is a lower bound of the answer that every move so far keeps to, and it is no more than the value or a
abbrev pub invariant-value_at-loop-own : goal.invariant-value_at-loop-own
invariant-value_at-loop-own g l =
    let rules = g.G.Game.rules l.game in
    let state = g.G.Game.state l.game l.from in
    record {
      kept : AreKept g.G.Game l.game l.fn.tools l.initial.levels l.tools l.levels;
      deep : length l.levels ≡ length l.initial.levels;
      in_list : l.place ≤ length (rules.legal state l.asked.role);
      above : l.window.low ≤ℤ l.best;
      below : l.best <ℤ l.window.high;
      at_most : l.best ≤ℤ int_max (pos (value rules l.asked.role l.asked.depth l.asked.at state)) l.window.low;
      seen : (k : ℕ) → k < l.place → int_min (pos
          (worst rules l.asked.role (l.asked.depth - 1) l.asked.at state (get_or (rules.legal state l.asked.role) k 0))) l.window.high ≤ℤ l.best;
      later : l.lasts ≡ true → (d : ℕ) → l.asked.depth ≤ d → (k : ℕ) → k < l.place → int_min (pos
          (worst rules l.asked.role (d - 1) l.asked.at state (get_or (rules.legal state l.asked.role) k 0))) l.window.high ≤ℤ l.best;
    }

abbrev pub decreases-value_at-loop-own : goal.decreases-value_at-loop-own
decreases-value_at-loop-own g l =
    let rules = g.G.Game.rules l.game in
    length (rules.legal (g.G.Game.state l.game l.from) l.asked.role) - l.place

-- upper is an upper bound of the answer, and the replies that are left have the rest of it
abbrev pub invariant-try_worst_at-runs : goal.invariant-try_worst_at-runs
invariant-try_worst_at-runs g l =
    let rules = g.G.Game.rules l.game in
    let state = g.G.Game.state l.game l.from in
    let lists = choices rules state l.asked.role l.own in
    let all : ℕ → ℕ = λ d. worst rules l.asked.role d l.asked.at state l.own in
    let left : ℕ → ℕ = λ d. least (map (λ j. value rules l.asked.role d l.asked.at (rules.after state j))
    (l.level.moves.cursor.joint.items ∷ later lists l.level.moves.cursor.places.items)) in
    record {
      level : IsLevelOf g.G.Game l.game l.level;
      capacities : level_capacities g.G.Game l.game l.level ≡ level_capacities g.G.Game l.game l.initial.level;
      kept : AreKept g.G.Game l.game l.fn.tools l.initial.rest l.tools l.rest;
      deep : l.asked.depth ≤ length l.rest;
      some : 0 < l.most;
      few : l.most ≤ 64;
      stands : StandsAt lists l.level.moves.cursor.places.items l.level.moves.cursor.joint.items;
      above : l.window.low <ℤ l.upper;
      below : l.upper ≤ℤ l.window.high;
      at_least : int_min (pos (all l.asked.depth)) l.window.high ≤ℤ l.upper;
      part : (d : ℕ) → all d ≤ left d;
      at_most : int_min l.upper (pos (left l.asked.depth)) ≤ℤ int_max (pos (all l.asked.depth)) l.window.low;
      later : l.lasts ≡ true → (d : ℕ) → l.asked.depth ≤ d → int_min (pos (all d)) l.window.high ≤ℤ l.upper;
    }

abbrev pub decreases-try_worst_at-runs : goal.decreases-try_worst_at-runs
decreases-try_worst_at-runs g l =
    let rules = g.G.Game.rules l.game in
    let lists = choices rules (g.G.Game.state l.game l.from) l.asked.role l.own in
    length (later lists l.level.moves.cursor.places.items)

-- upper is an upper bound of the answer, and no state so far is worth less, unless it is a or less
abbrev pub invariant-least_at-loop-place : goal.invariant-least_at-loop-place
invariant-least_at-loop-place g l =
    let rules = g.G.Game.rules l.game in
    let states = g.G.Game.states l.game l.fn.children.many in
    let all : ℕ → ℕ = λ d. least (map (value rules l.asked.role d l.asked.at) states) in
    record {
      kept : AreKept g.G.Game l.game l.fn.tools l.initial.levels l.tools l.levels;
      deep : length l.levels ≡ length l.initial.levels;
      known : AreLookedAt g.G.Game l.game l.asked l.children;
      same : AreSameStates g.G.Game l.game l.fn.children l.children;
      size : length l.order ≡ 64;
      order : IsPermutation (range_with_len 0 l.count) (take l.count l.order);
      above : l.window.low <ℤ l.upper;
      below : l.upper ≤ℤ l.window.high;
      at_least : int_min (pos (all l.asked.depth)) l.window.high ≤ℤ l.upper;
      later : l.lasts ≡ true → (d : ℕ) → l.asked.depth ≤ d → int_min (pos (all d)) l.window.high ≤ℤ l.upper;
      seen : (k : ℕ) → k < l.place
          → l.upper ≤ℤ int_max (pos (value rules l.asked.role l.asked.depth l.asked.at (get_or states (get_or l.order k 0) []))) l.window.low;
    }

abbrev pub decreases-best_at : goal.decreases-best_at
decreases-best_at g l = 6 * l.asked.depth + 5

abbrev pub decreases-greatest_at : goal.decreases-greatest_at
decreases-greatest_at g l = 6 * l.asked.depth + 3

abbrev pub decreases-greatest_after : goal.decreases-greatest_after
decreases-greatest_after g l = 6 * l.asked.depth + 4

-- best is a lower bound of the answer that every move so far keeps to, and it is no more than the value or a
abbrev pub invariant-best_at-runs : goal.invariant-best_at-runs
invariant-best_at-runs g l =
    let rules = g.G.Game.rules l.game in
    let state = g.G.Game.state l.game l.from in
    let worths : ℕ → List ℕ = λ d. map (worst rules l.asked.role d l.asked.at state) (rules.legal state l.asked.role) in
    record {
      level : IsLevelOf g.G.Game l.game l.level;
      capacities : level_capacities g.G.Game l.game l.level ≡ level_capacities g.G.Game l.game l.initial.level;
      kept : AreKept g.G.Game l.game l.fn.tools l.initial.rest l.tools l.rest;
      deep : l.asked.depth ≤ length l.rest;
      some : 0 < l.most;
      few : l.most ≤ 64;
      stands : StandsAt (choices rules state l.asked.role 0) l.level.moves.cursor.places.items l.level.moves.cursor.joint.items;
      in_list : l.place ≤ length (rules.legal state l.asked.role);
      above : l.window.low ≤ℤ l.best;
      below : l.best <ℤ l.window.high;
      at_most : l.best ≤ℤ int_max (pos (greatest (worths l.asked.depth))) l.window.low;
      seen : (k : ℕ) → k < l.place → int_min (pos (get_or (worths l.asked.depth) k 0)) l.window.high ≤ℤ l.best;
      later : l.lasts ≡ true → (d : ℕ) → l.asked.depth ≤ d → (k : ℕ) → k < l.place → int_min (pos (get_or (worths d) k 0)) l.window.high ≤ℤ l.best;
    }

abbrev pub decreases-best_at-runs : goal.decreases-best_at-runs
decreases-best_at-runs g l = length ((g.G.Game.rules l.game).legal (g.G.Game.state l.game l.from) l.asked.role) - l.place

-- lower is a lower bound of the answer that every state so far keeps to, and it is no more than the greatest value or a
abbrev pub invariant-greatest_at-loop-place : goal.invariant-greatest_at-loop-place
invariant-greatest_at-loop-place g l =
    let rules = g.G.Game.rules l.game in
    let states = g.G.Game.states l.game l.fn.children.many in
    let all = greatest (map (value rules l.asked.role l.asked.depth l.asked.at) states) in
    record {
      kept : AreKept g.G.Game l.game l.fn.tools l.initial.levels l.tools l.levels;
      deep : length l.levels ≡ length l.initial.levels;
      known : AreLookedAt g.G.Game l.game l.asked l.children;
      same : AreSameStates g.G.Game l.game l.fn.children l.children;
      size : length l.order ≡ 64;
      order : IsPermutation (range_with_len 0 l.count) (take l.count l.order);
      above : l.window.low ≤ℤ l.lower;
      below : l.lower <ℤ l.window.high;
      at_most : l.lower ≤ℤ int_max (pos all) l.window.low;
      seen : (k : ℕ) → k < l.place
          → int_min (pos (value rules l.asked.role l.asked.depth l.asked.at (get_or states (get_or l.order k 0) []))) l.window.high ≤ℤ l.lower;
      later : l.lasts ≡ true → (d : ℕ) → l.asked.depth ≤ d → (k : ℕ) → k < l.place
          → int_min (pos (value rules l.asked.role d l.asked.at (get_or states (get_or l.order k 0) []))) l.window.high ≤ℤ l.lower;
    }
