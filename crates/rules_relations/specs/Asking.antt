-- This crate's own: what `run` promises does not rest on it.
-- What an item states and asks.
use Rattle.std.specs.Prelude.{ℕ, Bool, false, ◌&&◌, ◌||◌, List, [], ◌∷◌, map}
use Rattle.statement.specs.Tree.{Tree}
use Rattle.statement.specs.Clause.{Relation, relation_of, relation_eq, atom_of, Literal}
use Rattle.statement.specs.Items.{item_head, body_trees}
use Rattle.rules_profile.specs.Standing.{literals_of_all}
use Rattle.rules_relations.specs.Probes.{some_of, binds_in}

-- the item's head has the relation
abbrev pub heads_it : Relation → Tree → Bool
heads_it p t = relation_eq (relation_of (item_head t)) p

-- the literals that stand in the item's body, however they are joined
abbrev pub body_literals : Tree → List Literal
body_literals t = literals_of_all (body_trees t)

-- the relations of literals, one for each
abbrev pub relations_of : List Literal → List Relation
relations_of ls = map (λ l. relation_of (atom_of l)) ls

-- the relations of those in the item's body
abbrev pub asked_relations : Tree → List Relation
asked_relations t = relations_of (body_literals t)

-- one of them has the relation
abbrev pub asks_it : Relation → Tree → Bool
asks_it p t = some_of (λ l. relation_eq (relation_of (atom_of l)) p) (body_literals t)

-- the item heads the first relation and asks the second
abbrev pub links_them : Relation → Relation → Tree → Bool
links_them p q t = heads_it p t && asks_it q t

-- one of them is positive, is no `distinct`, and has the variable
abbrev pub binds_it : List ℕ → Tree → Bool
binds_it n t = some_of (binds_in n) (body_literals t)

-- a test holds of some item
abbrev pub some_item : (Tree → Bool) → List Tree → Bool
some_item test [] = false
some_item test (t ∷ ts) = test t || some_item test ts
