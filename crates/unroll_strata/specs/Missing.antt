-- This crate's own: what `run` promises does not rest on it.
-- Rules that ask which propositions or which moves there are, where no item says so.
use Rattle.std.specs.Prelude.{Bool, not, ◌&&◌, ◌||◌, List, All, IsTrue}
use Rattle.statement.specs.Tree.{Tree}
use Rattle.statement.specs.Words.{w_base, w_input}
use Rattle.statement.specs.Clause.{Relation}
use Rattle.rules_relations.specs.Asking.{heads_it, asks_it, some_item}

-- no item states the relation, and this one asks it
abbrev pub misses : Relation → List Tree → Tree → Bool
misses p items t = not (some_item (heads_it p) items) && asks_it p t

-- the item asks `base` or `input`, and no item states it
abbrev pub asks_unstated : List Tree → Tree → Bool
asks_unstated items t = misses (record { word = w_base; arity = 1 }) items t || misses (record { word = w_input; arity = 2 }) items t

abbrev pub AsksUnstated : List Tree → Tree → Type 0
AsksUnstated items t = IsTrue (asks_unstated items t)

-- what is asked of `base` and `input` is stated
abbrev pub AreRangesStated : List Tree → Type 0
AreRangesStated items = All (λ t. ¬ AsksUnstated items t) items
