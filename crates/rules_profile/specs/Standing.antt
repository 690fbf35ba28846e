-- This crate's own: what `run` promises does not rest on it.
-- The literals that stand in a tree, each as often as it does, however they are joined by `or` and `and`.
use Rattle.std.specs.Prelude.{cond, ◌||◌, List, [], ◌∷◌, ◌++◌}
use Rattle.statement.specs.Tree.{Tree, name, list, Trees, no_trees, tree, name_eq}
use Rattle.statement.specs.Words.{w_or, w_and, w_not}
use Rattle.statement.specs.Clause.{Literal, positive}
use Rattle.statement.specs.Items.{atom_in, negated}

abbrev mutual
  pub literals_in : Tree → List Literal
  literals_in (name c) = positive (atom_in (name c)) ∷ []
  literals_in (list ts) = literals_of_list ts

  pub literals_of_list : Trees → List Literal
  literals_of_list no_trees = []
  literals_of_list (tree (list us) ts) = []
  literals_of_list (tree (name c) ts) =
      cond (name_eq c w_or || name_eq c w_and) (literals_of_all ts)
      (cond (name_eq c w_not) (negated ts ∷ []) (positive (record { word = c; terms = ts }) ∷ []))

  pub literals_of_all : Trees → List Literal
  literals_of_all no_trees = []
  literals_of_all (tree t ts) = literals_in t ++ literals_of_all ts
