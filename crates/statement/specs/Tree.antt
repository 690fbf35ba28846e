-- Trees and their canonical text.
use Rattle.std.specs.Prelude.{ℕ, Bool, true, false, ◌&&◌, ◌==◌, List, [], ◌∷◌, ◌++◌}
use Rattle.std.specs.Ordering.{nat_cmp}
use Rattle.std.specs.Cmp.Lexicographic.{slice_cmp}
use Rattle.std.specs.declared.cmp.Ordering.{Ordering}

-- a tree is a name, as its bytes, or a list of trees
mutual
  pub data Tree : Type 0 where
    name : List ℕ → Tree
    list : Trees → Tree

  pub data Trees : Type 0 where
    no_trees : Trees
    tree : Tree → Trees → Trees

-- the canonical text: a name is its bytes, and a list is its parts in brackets, joined by one space
abbrev mutual
  pub text : Tree → List ℕ
  text (name n) = n
  text (list ts) = 40 ∷ parts_text ts

  -- the parts and the closing bracket
  pub parts_text : Trees → List ℕ
  parts_text no_trees = 41 ∷ []
  parts_text (tree t ts) = text t ++ further_text ts

  -- the same, with a space before each part
  pub further_text : Trees → List ℕ
  further_text no_trees = 41 ∷ []
  further_text (tree t ts) = 32 ∷ text t ++ further_text ts

-- two names with the same bytes
abbrev pub name_eq : List ℕ → List ℕ → Bool
name_eq [] [] = true
name_eq [] (c ∷ cs) = false
name_eq (b ∷ bs) [] = false
name_eq (b ∷ bs) (c ∷ cs) = (b == c) && name_eq bs cs

abbrev mutual
  pub tree_eq : Tree → Tree → Bool
  tree_eq (name m) (name n) = name_eq m n
  tree_eq (name m) (list us) = false
  tree_eq (list ts) (name n) = false
  tree_eq (list ts) (list us) = trees_eq ts us

  pub trees_eq : Trees → Trees → Bool
  trees_eq no_trees no_trees = true
  trees_eq no_trees (tree u us) = false
  trees_eq (tree t ts) no_trees = false
  trees_eq (tree t ts) (tree u us) = tree_eq t u && trees_eq ts us

abbrev pub list_of : Trees → List Tree
list_of no_trees = []
list_of (tree t ts) = t ∷ list_of ts

abbrev pub trees_of : List Tree → Trees
trees_of [] = no_trees
trees_of (t ∷ ts) = tree t (trees_of ts)

-- printed order: the byte order of the texts, a beginning first
abbrev pub printed_cmp : Tree → Tree → Ordering
printed_cmp t u = slice_cmp nat_cmp (text t) (text u)

abbrev pub is_name_tree : Tree → Bool
is_name_tree (name n) = true
is_name_tree (list ts) = false

abbrev pub parts_of : Tree → List Tree
parts_of (name n) = []
parts_of (list ts) = list_of ts
