-- This crate's own: what `run` promises does not rest on it.
-- What all items together state and ask.
use Rattle.std.specs.Prelude.{◌≡◌, List}
use Rattle.statement.specs.Tree.{Tree}
use Rattle.statement.specs.Clause.{Relation}
use Rattle.statement.specs.Dependence.{is_among}
use Rattle.rules_relations.specs.Asking.{heads_it, asks_it, some_item}
use Rattle.diagnose_lint.specs.declared.whole.Whole.{Whole}

-- a relation is there where some item heads it, or asks it
pub record IsWhole (ts : List Tree) (w : Whole) : Type 0 where
  pub stated_are : (p : Relation) → is_among p w.stated ≡ some_item (heads_it p) ts
  pub asked_are : (p : Relation) → is_among p w.asked ≡ some_item (asks_it p) ts
