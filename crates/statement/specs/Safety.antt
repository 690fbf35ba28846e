-- Each variable of the head, of a negated literal or of a `distinct` stands in a positive literal too.
use Rattle.std.specs.Prelude.{ℕ, suc, Bool, true, false, not, cond, ◌&&◌, ◌||◌, List, [], ◌∷◌, ◌++◌}
use Rattle.statement.specs.Tree.{Tree, name, list, Trees, no_trees, tree, name_eq}
use Rattle.statement.specs.Clause.{is_variable, Literal, positive, negative, Alternative, relation_of, atom_of}
use Rattle.statement.specs.Dependence.{is_distinct}

abbrev mutual
  pub variables : Tree → List (List ℕ)
  variables (name n) = cond (is_variable n) (n ∷ []) []
  variables (list ts) = variables_in ts

  pub variables_in : Trees → List (List ℕ)
  variables_in no_trees = []
  variables_in (tree t ts) = variables t ++ variables_in ts

-- a positive literal binds its variables, and `distinct` is none
abbrev pub is_binding : Literal → Bool
is_binding (positive a) = not (is_distinct (relation_of a))
is_binding (negative a) = false

abbrev pub bound : List Literal → List (List ℕ)
bound [] = []
bound (l ∷ ls) = cond (is_binding l) (variables_in (atom_of l).terms) [] ++ bound ls

abbrev pub needed : List Literal → List (List ℕ)
needed [] = []
needed (l ∷ ls) = cond (is_binding l) [] (variables_in (atom_of l).terms) ++ needed ls

abbrev pub is_name_in : List ℕ → List (List ℕ) → Bool
is_name_in n [] = false
is_name_in n (m ∷ ms) = name_eq n m || is_name_in n ms

abbrev pub are_names_in : List (List ℕ) → List (List ℕ) → Bool
are_names_in [] ms = true
are_names_in (n ∷ ns) ms = is_name_in n ms && are_names_in ns ms

abbrev pub is_safe : Alternative → Bool
is_safe a = are_names_in (variables_in a.head.terms ++ needed a.body) (bound a.body)

abbrev pub are_safe : List Alternative → Bool
are_safe [] = true
are_safe (a ∷ rest) = is_safe a && are_safe rest

-- how many different names a list has
abbrev pub count_different : List (List ℕ) → ℕ
count_different [] = 0
count_different (n ∷ ns) = cond (is_name_in n ns) (count_different ns) (suc (count_different ns))
