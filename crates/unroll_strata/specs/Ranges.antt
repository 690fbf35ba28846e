-- This crate's own: what `run` promises does not rest on it.
-- Whether an item has an alternative, and so states what it heads.
use Rattle.std.specs.Prelude.{Bool, true, false, cond, ◌&&◌, ◌||◌}
use Rattle.statement.specs.Tree.{Tree, name, list, Trees, no_trees, tree, name_eq}
use Rattle.statement.specs.Words.{w_or, w_and}
use Rattle.statement.specs.Clause.{Relation}
use Rattle.statement.specs.Items.{body_trees}
use Rattle.rules_relations.specs.Asking.{heads_it}

-- the tree has a reading: a name; an `or` with a part that has one; an `and` whose parts all have one; and any other list that begins with a name
abbrev mutual
  pub has_reading : Tree → Bool
  has_reading (name c) = true
  has_reading (list ts) = list_has_reading ts

  pub list_has_reading : Trees → Bool
  list_has_reading no_trees = false
  list_has_reading (tree (list us) ts) = false
  list_has_reading (tree (name c) ts) = cond (name_eq c w_or) (some_has_reading ts) (cond (name_eq c w_and) (each_has_reading ts) true)

  pub some_has_reading : Trees → Bool
  some_has_reading no_trees = false
  some_has_reading (tree t ts) = has_reading t || some_has_reading ts

  pub each_has_reading : Trees → Bool
  each_has_reading no_trees = true
  each_has_reading (tree t ts) = has_reading t && each_has_reading ts

-- the item heads the relation, and its body has a reading
abbrev pub states_it : Relation → Tree → Bool
states_it p t = heads_it p t && each_has_reading (body_trees t)
