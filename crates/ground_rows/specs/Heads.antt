-- This crate's own: what `run` promises does not rest on it.
-- The alternatives that head each relation, one behind the other.
use Rattle.std.specs.Prelude.{ℕ, ◌≡◌, ◌<◌, ◌≤◌, List, length, map, slice_index}
use Rattle.rules_clauses.specs.declared.numbered.Alternative as memory
use Rattle.rules.specs.declared.rule_set.RuleSet.{RuleSet}
use Rattle.rules.specs.RuleSetView.{alternatives_in}

-- the relation that each alternative heads
abbrev pub heads_among : List memory.Alternative → List ℕ
heads_among as' = map (λ (a : memory.Alternative). a.head.relation) as'

abbrev pub heads_in : RuleSet → List ℕ
heads_in set = heads_among (alternatives_in set)

-- `first` tells of each relation the first alternative that heads it, and `next` of each alternative the next
-- that heads its relation; where there is none it tells how many alternatives there are
pub record HeadsChained (heads : List ℕ) (relations : ℕ) (first next : List ℕ) : Type 0 where
  pub first_many : length first ≡ relations
  pub next_many : length next ≡ length heads
  pub firsts : (i : ℕ) → i < length heads → slice_index first (slice_index heads i) ≤ i
  pub firsts_are : (r : ℕ) → r < relations → slice_index first r < length heads → slice_index heads (slice_index first r) ≡ r
  pub nexts : (i j : ℕ) → i < j → j < length heads → slice_index heads i ≡ slice_index heads j → slice_index next i ≤ j
  pub nexts_are : (i : ℕ) → i < length heads → slice_index next i < length heads → slice_index heads (slice_index next i) ≡ slice_index heads i
  pub nexts_later : (i : ℕ) → i < length heads → i < slice_index next i
