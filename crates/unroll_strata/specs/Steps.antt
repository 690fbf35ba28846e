-- This crate's own: what `run` promises does not rest on it.
-- A game whose turns are steps of derivation: a state is a set of atoms of own relations, each as a term, and the state after a turn has
-- what the rules of these relations derive from it in one step.
use Rattle.std.specs.Prelude.{ℕ, cond, ◌||◌, Bool, List, [], ◌∷◌, ◌++◌, map, filter}
use Rattle.statement.specs.Tree.{Tree, name, list, Trees, no_trees, tree, name_eq}
use Rattle.statement.specs.Words.{w_if, w_not, w_or, w_and, w_base, w_true, w_next}
use Rattle.statement.specs.Clause.{Atom, Literal, positive, negative, Alternative, Relation, relation_of, tree_of}
use Rattle.statement.specs.Dependence.{is_among}
use Rattle.statement.specs.Items.{atom_in, item_head, body_trees}
use Rattle.statement.specs.Meaning.{atom1}

-- Rules. An own atom is asked of the state, and what a rule derives comes into the next one.

abbrev pub stepped_literal : List Relation → Literal → Literal
stepped_literal own (positive x) = positive (cond (is_among (relation_of x) own) (atom1 w_true (tree_of x)) x)
stepped_literal own (negative x) = negative x

abbrev pub stepped : List Relation → Alternative → Alternative
stepped own rule = record { head = atom1 w_next (tree_of rule.head); body = map (stepped_literal own) rule.body }

-- what a rule derives can be in a state
abbrev pub based : Alternative → Alternative
based rule = record { head = atom1 w_base (tree_of rule.head); body = rule.body }

-- Trees.

-- a list of a word and a tree
abbrev pub pair : List ℕ → Tree → Tree
pair w t = list (tree (name w) (tree t no_trees))

abbrev pub step_atom : List Relation → Tree → Tree
step_atom own t = cond (is_among (relation_of (atom_in t)) own) (pair w_true (tree_of (atom_in t))) t

-- a literal: the parts of an `or` and an `and` change, and what stands behind a `not` stays
abbrev mutual
  pub step_literal : List Relation → Tree → Tree
  step_literal own (name c) = step_atom own (name c)
  step_literal own (list ts) = step_list own ts

  pub step_list : List Relation → Trees → Tree
  step_list own no_trees = list no_trees
  step_list own (tree (list us) ts) = list (tree (list us) ts)
  step_list own (tree (name c) ts) =
      cond (name_eq c w_or || name_eq c w_and) (list (tree (name c) (step_literals own ts)))
      (cond (name_eq c w_not) (list (tree (name c) ts)) (step_atom own (list (tree (name c) ts))))

  pub step_literals : List Relation → Trees → Trees
  step_literals own no_trees = no_trees
  step_literals own (tree t ts) = tree (step_literal own t) (step_literals own ts)

-- a rule; a fact is one without literals
abbrev pub step_item : List Relation → Tree → Tree
step_item own t = list (tree (name w_if) (tree (pair w_next (tree_of (item_head t))) (step_literals own (body_trees t))))

-- an item whose head can be in a state, where its body is right
abbrev pub based_item : Tree → Tree
based_item t = list (tree (name w_if) (tree (pair w_base (tree_of (item_head t))) (body_trees t)))

-- The game.

-- the item heads a relation of the list
abbrev pub heads_one : List Relation → Tree → Bool
heads_one ps t = is_among (relation_of (item_head t)) ps

-- the written items of the relations below; those of the own relations, as what a state can have; and the items that were found for the own
-- relations, as steps
abbrev pub step_game : List Relation → List Relation → List Tree → List Tree → List Tree
step_game own below found written =
    filter (heads_one below) written ++ (map based_item (filter (heads_one own) written) ++ map (step_item own) (filter (heads_one own) found))
