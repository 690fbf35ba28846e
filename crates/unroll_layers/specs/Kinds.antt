-- This crate's own: what `run` promises does not rest on it.
-- How many own atoms the items have that were found for own relations.
use Rattle.std.specs.Prelude.{ℕ, Bool, true, false, not, ◌&&◌, ◌||◌, ◌==◌, nat_lt, List, length, filter}
use Rattle.std.specs.List.{list_all}
use Rattle.statement.specs.Tree.{Tree, name, list, no_trees, tree, name_eq, list_of}
use Rattle.statement.specs.Words.{w_not, w_or, w_and}
use Rattle.statement.specs.Clause.{Relation, relation_of}
use Rattle.statement.specs.Dependence.{is_among}
use Rattle.statement.specs.Items.{atom_in, item_head, body_trees}
use Rattle.rules_relations.specs.Asking.{heads_it}

-- a literal that is an atom, without `or`, `and` and `not`
abbrev pub is_plain : Tree → Bool
is_plain (name c) = true
is_plain (list no_trees) = false
is_plain (list (tree (list us) ts)) = false
is_plain (list (tree (name c) ts)) = not (name_eq c w_or || (name_eq c w_and || name_eq c w_not))

-- a literal that is an atom or its negation
abbrev pub is_single : Tree → Bool
is_single (name c) = true
is_single (list no_trees) = false
is_single (list (tree (list us) ts)) = false
is_single (list (tree (name c) ts)) = not (name_eq c w_or || name_eq c w_and)

abbrev pub is_own_atom : List Relation → Tree → Bool
is_own_atom own t = is_plain t && is_among (relation_of (atom_in t)) own

-- how many of the literals are own atoms
abbrev pub count_own : List Relation → List Tree → ℕ
count_own own ts = length (filter (is_own_atom own) ts)

-- the literals of the item's body
abbrev pub body_of : Tree → List Tree
body_of t = list_of (body_trees t)

abbrev pub heads_one : List Relation → Tree → Bool
heads_one own t = is_among (relation_of (item_head t)) own

-- so many own atoms are too many in one body: more than one, where layers do not keep those before
abbrev pub is_too_many : Bool → ℕ → Bool
is_too_many keeps n = not keeps && nat_lt 1 n

-- the item heads an own relation, and has a literal that is neither an atom nor the negation of one, or too many own atoms
abbrev pub is_unclear : List Relation → Bool → Tree → Bool
is_unclear own keeps t =
    heads_one own t && (not (list_all is_single (body_of t)) || is_too_many keeps (count_own own (body_of t)))

-- some own atoms where an item is inner, and else none
abbrev pub is_count : Bool → ℕ → Bool
is_count true n = nat_lt 0 n
is_count false n = n == 0

-- the item heads the relation, and has own atoms, or none where it is not inner
abbrev pub is_of_kind : List Relation → Relation → Bool → Tree → Bool
is_of_kind own p inner t = heads_it p t && is_count inner (count_own own (body_of t))
