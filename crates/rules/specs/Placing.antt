-- This crate's own: what `run` promises does not rest on it.
-- Relations by what they are compared by, in order.
use Rattle.std.specs.Prelude.{ℕ, ◌<◌, ◌≤◌, ◌≡◌, ◌==◌, not, List, map, All, count_by}
use Rattle.std.specs.List.Sorted.{IsPermutation, IsSorted}
use Rattle.std.specs.Ordering.{nat_cmp, bool_cmp}
use Rattle.std.specs.Cmp.Lexicographic.{slice_cmp}
use Rattle.std.specs.declared.cmp.Ordering.{Ordering}
use Rattle.rules.specs.declared.order_of_relations.Ranked.{Ranked}
use Rattle.statement.specs.Clause.{Alternative, Relation}
use Rattle.statement.specs.Dependence.{IsAmong, heads_of, is_fixed}
use Rattle.statement.specs.Order.{then_by, rank}

-- fixed ones first, then by rank, by the bytes of the name, by the number of arguments, by the number
abbrev pub entry_cmp : Ranked → Ranked → Ordering
entry_cmp a b =
    then_by (bool_cmp a.is_moving b.is_moving)
    (then_by (nat_cmp a.rank b.rank)
    (then_by (slice_cmp nat_cmp a.name.now b.name.now)
    (then_by (nat_cmp a.arity b.arity) (nat_cmp a.number b.number))))

-- the numbers are those of the entries, in order
pub record EntriesInOrder (entries : List Ranked) (numbers : List ℕ) : Type 0 where
  pub placed : List Ranked
  pub moved : IsPermutation entries placed
  pub sorted : IsSorted entry_cmp placed
  pub numbers_are : numbers ≡ map (λ (entry : Ranked). entry.number) placed

-- an entry says what its relation is compared by
pub record IsEntry (n : ℕ) (name : ℕ → Relation) (rules : List Alternative) (entry : Ranked) : Type 0 where
  pub inside : entry.number < n
  pub moving : entry.is_moving ≡ not (is_fixed rules (name entry.number))
  pub rank_is : entry.rank ≡ rank rules (name entry.number)
  pub word : entry.name.now ≡ (name entry.number).word
  pub arity_is : entry.arity ≡ (name entry.number).arity
  pub heads : IsAmong (name entry.number) (heads_of rules)

-- one entry for each relation that heads an alternative
pub record AreEntries (n : ℕ) (name : ℕ → Relation) (rules : List Alternative) (entries : List Ranked) : Type 0 where
  pub different : (i j : ℕ) → i < n → j < n → name i ≡ name j → i ≡ j
  pub each : All (IsEntry n name rules) entries
  pub once : (number : ℕ) → count_by (λ (entry : Ranked). entry.number == number) entries ≤ 1
  pub complete : (p : Relation) → IsAmong p (heads_of rules) → IsAmong p (map (λ (entry : Ranked). name entry.number) entries)
