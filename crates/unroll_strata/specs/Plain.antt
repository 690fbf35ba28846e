-- This crate's own: what `run` promises does not rest on it.
-- Items in the form of the profile: `not` pushed inwards until it stands before atoms, and the role of a goal named where its head alone
-- names it.
use Rattle.std.specs.Prelude.{ℕ, ◌≡◌, Bool, true, false, not, cond, List, [], ◌∷◌, map, Option, Some, None}
use Rattle.statement.specs.Tree.{Tree, name, list, Trees, no_trees, tree, name_eq}
use Rattle.statement.specs.Words.{w_if, w_not, w_or, w_and, w_goal, w_role}
use Rattle.statement.specs.Clause.{is_variable}
use Rattle.statement.specs.Items.{is_some, head_tree, body_trees, item_head}
use Rattle.rules_relations.specs.Asking.{binds_it}

-- a tree, or its negation
abbrev pub turned : Bool → Tree → Tree
turned true t = list (tree (name w_not) (tree t no_trees))
turned false t = t

-- a literal, or what is right where it is wrong
abbrev mutual
  pub plain_literal : Bool → Tree → Tree
  plain_literal wrong (name c) = turned wrong (name c)
  plain_literal wrong (list ts) = plain_list wrong ts

  pub plain_list : Bool → Trees → Tree
  plain_list wrong no_trees = turned wrong (list no_trees)
  plain_list wrong (tree (list us) ts) = turned wrong (list (tree (list us) ts))
  plain_list wrong (tree (name c) ts) =
      cond (name_eq c w_or) (list (tree (name (cond wrong w_and w_or)) (plain_literals wrong ts)))
      (cond (name_eq c w_and) (list (tree (name (cond wrong w_or w_and)) (plain_literals wrong ts)))
      (cond (name_eq c w_not) (plain_not wrong ts) (turned wrong (list (tree (name c) ts)))))

  -- what stands behind a `not`
  pub plain_not : Bool → Trees → Tree
  plain_not wrong no_trees = turned wrong (list (tree (name w_not) no_trees))
  plain_not wrong (tree t no_trees) = plain_literal (not wrong) t
  plain_not wrong (tree t (tree u us)) = turned wrong (list (tree (name w_not) (tree t (tree u us))))

  pub plain_literals : Bool → Trees → Trees
  plain_literals wrong no_trees = no_trees
  plain_literals wrong (tree t ts) = tree (plain_literal wrong t) (plain_literals wrong ts)

abbrev pub behind : Trees → Trees → Trees
behind no_trees us = us
behind (tree t ts) us = tree t (behind ts us)

-- the variable that stands first
abbrev pub first_variable : Trees → Option (List ℕ)
first_variable no_trees = None
first_variable (tree (list us) ts) = None
first_variable (tree (name c) ts) = cond (is_variable c) (Some c) None

abbrev pub unbound : Tree → Option (List ℕ) → Trees
unbound t None = no_trees
unbound t (Some r) = cond (binds_it r t) no_trees (tree (list (tree (name w_role) (tree (name r) no_trees))) no_trees)

-- the literal that names the role of a goal, where its head alone names it
abbrev pub role_literal : Tree → Trees
role_literal t = cond (name_eq (item_head t).word w_goal) (unbound t (first_variable (item_head t).terms)) no_trees

abbrev pub plain_item : Tree → Tree
plain_item t =
    cond (is_some (body_trees t))
    (list (tree (name w_if) (tree (head_tree t) (behind (plain_literals false (body_trees t)) (role_literal t)))))
    t

abbrev pub plain_items : List Tree → List Tree
plain_items ts = map plain_item ts

-- the list has no part, or more than one
abbrev pub HasNotOne : List Tree → Type 0
HasNotOne ts = (t : Tree) → ts ≡ t ∷ [] → ⊥
