-- This crate's own: what `run` promises does not rest on it.
-- Items with one for each reading of its body in the place of a rule.
use Rattle.std.specs.Prelude.{Bool, cond, ◌&&◌, List, [], ◌∷◌, ◌++◌, map}
use Rattle.statement.specs.Tree.{Tree, name, list, Trees, no_trees, tree, name_eq, trees_of}
use Rattle.statement.specs.Words.{w_if, w_or, w_and}
use Rattle.statement.specs.Clause.{Relation, relation_of}
use Rattle.statement.specs.Dependence.{is_among}
use Rattle.statement.specs.Items.{is_some, head_tree, body_trees, item_head}

-- every pick of one of the first and one of the second, the first changing slowest
abbrev pub ways_behind : List Tree → List (List Tree) → List (List Tree)
ways_behind a [] = []
ways_behind a (b ∷ bs) = (a ++ b) ∷ ways_behind a bs

abbrev pub way_picks : List (List Tree) → List (List Tree) → List (List Tree)
way_picks [] bs = []
way_picks (a ∷ as') bs = ways_behind a bs ++ way_picks as' bs

-- the literals of each reading of a literal: itself alone, those of each part of an `or` one after the other, and every way to pick one
-- from each part of an `and`
abbrev mutual
  pub ways : Tree → List (List Tree)
  ways (name c) = (name c ∷ []) ∷ []
  ways (list ts) = list_ways ts

  pub list_ways : Trees → List (List Tree)
  list_ways no_trees = []
  list_ways (tree (list us) ts) = []
  list_ways (tree (name c) ts) =
      cond (name_eq c w_or) (ways_in_turn ts)
      (cond (name_eq c w_and) (ways_of_all ts) ((list (tree (name c) ts) ∷ []) ∷ []))

  pub ways_in_turn : Trees → List (List Tree)
  ways_in_turn no_trees = []
  ways_in_turn (tree t ts) = ways t ++ ways_in_turn ts

  pub ways_of_all : Trees → List (List Tree)
  ways_of_all no_trees = [] ∷ []
  ways_of_all (tree t ts) = way_picks (ways t) (ways_of_all ts)

abbrev pub heads_one : List Relation → Tree → Bool
heads_one own t = is_among (relation_of (item_head t)) own

-- a rule that heads one of the relations: an item with a body
abbrev pub is_parted : List Relation → Tree → Bool
is_parted own t = heads_one own t && is_some (body_trees t)

-- the rule that has this head and these literals
abbrev pub rule_of : Tree → List Tree → Tree
rule_of h ls = list (tree (name w_if) (tree h (trees_of ls)))

-- such a rule for each reading of the body; any other item is left as it is
abbrev pub item_by_reading : List Relation → Tree → List Tree
item_by_reading own t = cond (is_parted own t) (map (rule_of (head_tree t)) (ways_of_all (body_trees t))) (t ∷ [])

abbrev pub items_by_reading : List Relation → List Tree → List Tree
items_by_reading own [] = []
items_by_reading own (t ∷ ts) = item_by_reading own t ++ items_by_reading own ts
