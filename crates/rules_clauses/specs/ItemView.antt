-- This crate's own: what `run` promises does not rest on it.
-- An item in memory, and what it stands for.
use Rattle.std.specs.Prelude.{◌≡◌, ◌≤◌, length, drop}
use Rattle.statement.specs.Tree.{Tree}
use Rattle.rules_clauses.specs.declared.items.Item.{Item}
use Rattle.statement.specs.Items.{item_head, body_trees, readings_of_all}
use Rattle.rules_clauses.specs.Numbers.{NamesDiffer}
use Rattle.rules_clauses.specs.Spread.{lists_of}
use Rattle.rules_clauses.specs.Store.{Data}
use Rattle.rules_clauses.specs.Adding.{Extends, AreDifferentSignatures, HasVariables, HaveNames, StandOnce, AtomStandsFor, StandForLists}

-- the item stands for the tree
pub record ItemStandsFor (d : Data) (i : Item) (t : Tree) : Type 0 where
  pub head : AtomStandsFor i.variables.from d i.head (item_head t)
  pub bodies : StandForLists i.variables.from d (lists_of i.bodies.items) (readings_of_all (body_trees t))
  pub variables : HasVariables d i.variables

-- the tree was written as an item, whose variables are the last; it stays whatever comes behind it
pub record ReadsItem (old new : Data) (i : Item) (t : Tree) : Type 0 where
  pub extends : Extends old new
  pub words : NamesDiffer old.words → NamesDiffer new.words
  pub signatures : AreDifferentSignatures old.signatures → AreDifferentSignatures new.signatures
  pub named : HaveNames old → HaveNames new
  pub order : i.variables.from ≤ i.variables.to
  pub to : i.variables.to ≡ length new.variables
  pub once : StandOnce (drop i.variables.from new.variables)
  pub stands : (later : Data) → Extends new later → ItemStandsFor later i t
