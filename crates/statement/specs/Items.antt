-- How a tree is read as an item: a fact, or a rule with a head and a body.
use Rattle.std.specs.Prelude.{ℕ, Bool, true, false, not, cond, ◌&&◌, ◌||◌, nat_le, List, [], ◌∷◌, ◌++◌, length, map}
use Rattle.statement.specs.Tree.{Tree, name, list, Trees, no_trees, tree, name_eq}
use Rattle.statement.specs.Lexical.{is_lower_name_byte}
use Rattle.statement.specs.Reading.{name_limit}
use Rattle.statement.specs.Words.{w_if, w_not, w_or, w_and}
use Rattle.statement.specs.Clause.{is_variable, Atom, Literal, positive, negative, Alternative}

abbrev pub are_name_bytes : List ℕ → Bool
are_name_bytes [] = true
are_name_bytes (b ∷ bs) = is_lower_name_byte b && are_name_bytes bs

-- a name that a text can have: 1 byte to the limit, in lower case
abbrev pub is_name : List ℕ → Bool
is_name [] = false
is_name (b ∷ bs) = nat_le (length (b ∷ bs)) name_limit && are_name_bytes (b ∷ bs)

abbrev pub is_constant : List ℕ → Bool
is_constant n = is_name n && not (is_variable n)

-- a term is a name, or a list of a constant and at least one term
abbrev pub begins_compound : Trees → Bool
begins_compound no_trees = false
begins_compound (tree (list us) ts) = false
begins_compound (tree (name c) no_trees) = false
begins_compound (tree (name c) (tree t ts)) = is_constant c

abbrev mutual
  pub is_term : Tree → Bool
  is_term (name n) = is_name n
  is_term (list ts) = begins_compound ts && are_terms ts

  pub are_terms : Trees → Bool
  are_terms no_trees = true
  are_terms (tree t ts) = is_term t && are_terms ts

abbrev pub is_connective : List ℕ → Bool
is_connective c = name_eq c w_if || (name_eq c w_not || (name_eq c w_or || name_eq c w_and))

-- an atom is a constant, or a list of a constant and any number of terms
abbrev pub is_atom : Tree → Bool
is_atom (name c) = is_constant c && not (is_connective c)
is_atom (list no_trees) = false
is_atom (list (tree (list us) ts)) = false
is_atom (list (tree (name c) ts)) = (is_constant c && not (is_connective c)) && are_terms ts

-- the atom that a tree is; `(p)` is the atom `p`
abbrev pub atom_in : Tree → Atom
atom_in (name c) = record { word = c; terms = no_trees }
atom_in (list no_trees) = record { word = []; terms = no_trees }
atom_in (list (tree (list us) ts)) = record { word = []; terms = no_trees }
atom_in (list (tree (name c) ts)) = record { word = c; terms = ts }

abbrev pub is_one_atom : Trees → Bool
is_one_atom no_trees = false
is_one_atom (tree t no_trees) = is_atom t
is_one_atom (tree t (tree u us)) = false

abbrev pub is_some : Trees → Bool
is_some no_trees = false
is_some (tree t ts) = true

-- a literal is an atom, `(not x)` with an atom, or `(or l ..)` or `(and l ..)` with literals
abbrev mutual
  pub is_literal : Tree → Bool
  is_literal (name c) = is_atom (name c)
  is_literal (list ts) = is_literal_list ts

  pub is_literal_list : Trees → Bool
  is_literal_list no_trees = false
  is_literal_list (tree (list us) ts) = false
  is_literal_list (tree (name c) ts) =
      cond (name_eq c w_or || name_eq c w_and) (is_some ts && are_literals ts)
      (cond (name_eq c w_not) (is_one_atom ts) (is_atom (list (tree (name c) ts))))

  pub are_literals : Trees → Bool
  are_literals no_trees = true
  are_literals (tree t ts) = is_literal t && are_literals ts

-- every pick of one of the first and one of the second, the first changing slowest
abbrev pub behind_each : List Literal → List (List Literal) → List (List Literal)
behind_each a [] = []
behind_each a (b ∷ bs) = (a ++ b) ∷ behind_each a bs

abbrev pub picks : List (List Literal) → List (List Literal) → List (List Literal)
picks [] bs = []
picks (a ∷ as') bs = behind_each a bs ++ picks as' bs

abbrev pub negated : Trees → Literal
negated no_trees = negative (atom_in (list no_trees))
negated (tree t ts) = negative (atom_in t)

-- the alternatives of a literal: itself alone, those of each part of an `or` one after the other, and
-- every way to pick one from each part of an `and`
abbrev mutual
  pub readings : Tree → List (List Literal)
  readings (name c) = (positive (atom_in (name c)) ∷ []) ∷ []
  readings (list ts) = list_readings ts

  pub list_readings : Trees → List (List Literal)
  list_readings no_trees = []
  list_readings (tree (list us) ts) = []
  list_readings (tree (name c) ts) =
      cond (name_eq c w_or) (readings_in_turn ts)
      (cond (name_eq c w_and) (readings_of_all ts)
      (cond (name_eq c w_not) ((negated ts ∷ []) ∷ []) ((positive (record { word = c; terms = ts }) ∷ []) ∷ [])))

  pub readings_in_turn : Trees → List (List Literal)
  readings_in_turn no_trees = []
  readings_in_turn (tree t ts) = readings t ++ readings_in_turn ts

  pub readings_of_all : Trees → List (List Literal)
  readings_of_all no_trees = [] ∷ []
  readings_of_all (tree t ts) = picks (readings t) (readings_of_all ts)

-- the head and the body of an item: a fact has no body
abbrev pub head_tree : Tree → Tree
head_tree (list (tree (name c) (tree h ls))) = cond (name_eq c w_if) h (list (tree (name c) (tree h ls)))
head_tree t = t

abbrev pub body_trees : Tree → Trees
body_trees (list (tree (name c) (tree h ls))) = cond (name_eq c w_if) ls no_trees
body_trees t = no_trees

abbrev pub is_item : Tree → Bool
is_item t = is_atom (head_tree t) && are_literals (body_trees t)

abbrev pub item_head : Tree → Atom
item_head t = atom_in (head_tree t)

abbrev pub item_alternatives : Tree → List Alternative
item_alternatives t = map (λ b. record { head = item_head t; body = b }) (readings_of_all (body_trees t))

-- all alternatives, item by item
abbrev pub alternatives : List Tree → List Alternative
alternatives [] = []
alternatives (t ∷ ts) = item_alternatives t ++ alternatives ts
