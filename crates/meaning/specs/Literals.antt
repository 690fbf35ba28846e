-- This crate's own: what `run` promises does not rest on it.
-- Literals in which `not` may stand before any literal, and the alternatives of items that have such.
use Rattle.std.specs.Prelude.{Bool, true, false, cond, ◌&&◌, ◌||◌, List, [], ◌∷◌, ◌++◌, map}
use Rattle.statement.specs.Tree.{Tree, name, list, Trees, no_trees, tree, name_eq}
use Rattle.statement.specs.Words.{w_not, w_or, w_and}
use Rattle.statement.specs.Clause.{Literal, positive, negative, Alternative}
use Rattle.statement.specs.Items.{is_atom, is_some, atom_in, picks, head_tree, body_trees, item_head}

-- a literal is an atom, `(not l)` with one literal, or `(or l ..)` or `(and l ..)` with literals
abbrev mutual
  pub is_whole_literal : Tree → Bool
  is_whole_literal (name c) = is_atom (name c)
  is_whole_literal (list ts) = is_whole_list ts

  pub is_whole_list : Trees → Bool
  is_whole_list no_trees = false
  is_whole_list (tree (list us) ts) = false
  is_whole_list (tree (name c) ts) =
      cond (name_eq c w_or || name_eq c w_and) (is_some ts && are_whole_literals ts)
      (cond (name_eq c w_not) (is_one_whole ts) (is_atom (list (tree (name c) ts))))

  pub is_one_whole : Trees → Bool
  is_one_whole no_trees = false
  is_one_whole (tree t no_trees) = is_whole_literal t
  is_one_whole (tree t (tree u us)) = false

  pub are_whole_literals : Trees → Bool
  are_whole_literals no_trees = true
  are_whole_literals (tree t ts) = is_whole_literal t && are_whole_literals ts

abbrev pub is_whole_item : Tree → Bool
is_whole_item t = is_atom (head_tree t) && are_whole_literals (body_trees t)

-- the ways in which a literal is right, or wrong where `right` is false: an `or` is wrong where all its parts are, an
-- `and` where one is, and a `not` where its part is right
abbrev mutual
  pub ways : Bool → Tree → List (List Literal)
  ways right (name c) = (cond right (positive (atom_in (name c))) (negative (atom_in (name c))) ∷ []) ∷ []
  ways right (list ts) = list_ways right ts

  pub list_ways : Bool → Trees → List (List Literal)
  list_ways right no_trees = []
  list_ways right (tree (list us) ts) = []
  list_ways right (tree (name c) ts) =
      cond (name_eq c w_or) (cond right (ways_in_turn true ts) (ways_of_all false ts))
      (cond (name_eq c w_and) (cond right (ways_of_all true ts) (ways_in_turn false ts))
      (cond (name_eq c w_not) (cond right (ways_in_turn false ts) (ways_in_turn true ts))
      ((cond right (positive (record { word = c; terms = ts })) (negative (record { word = c; terms = ts })) ∷ []) ∷ [])))

  -- some part is right, or wrong
  pub ways_in_turn : Bool → Trees → List (List Literal)
  ways_in_turn right no_trees = []
  ways_in_turn right (tree t ts) = ways right t ++ ways_in_turn right ts

  -- all parts are right, or wrong
  pub ways_of_all : Bool → Trees → List (List Literal)
  ways_of_all right no_trees = [] ∷ []
  ways_of_all right (tree t ts) = picks (ways right t) (ways_of_all right ts)

abbrev pub whole_item_alternatives : Tree → List Alternative
whole_item_alternatives t = map (λ b. record { head = item_head t; body = b }) (ways_of_all true (body_trees t))

-- all alternatives, item by item
abbrev pub whole_alternatives : List Tree → List Alternative
whole_alternatives [] = []
whole_alternatives (t ∷ ts) = whole_item_alternatives t ++ whole_alternatives ts
