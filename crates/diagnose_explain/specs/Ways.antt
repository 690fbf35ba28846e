-- This crate's own: what `run` promises does not rest on it.
-- Ways from relation to relation.
use Rattle.std.specs.Prelude.{◌≡◌, Bool, true, false, ◌&&◌, List, [], ◌∷◌}
use Rattle.statement.specs.Tree.{Tree}
use Rattle.statement.specs.Clause.{Relation, relation_eq, relation_of}
use Rattle.statement.specs.Items.{item_head}
use Rattle.statement.specs.Dependence.{IsAmong}
use Rattle.rules_relations.specs.Asking.{asks_it, links_them, some_item}

-- some item heads the first relation and asks the second
abbrev pub leads : List Tree → Relation → Relation → Bool
leads items p q = some_item (links_them p q) items

-- each relation leads to the next
abbrev pub is_chain : List Tree → Relation → List Relation → Bool
is_chain items p [] = true
is_chain items p (q ∷ qs) = leads items p q && is_chain items q qs

abbrev pub ends_with : Relation → List Relation → Bool
ends_with q [] = false
ends_with q (p ∷ []) = relation_eq p q
ends_with q (p ∷ r ∷ rs) = ends_with q (r ∷ rs)

-- the item asks the first of the relations
abbrev pub asks_first : Tree → List Relation → Bool
asks_first t [] = false
asks_first t (p ∷ ps) = asks_it p t

-- from the item's own relation, by what the item asks, each relation leads to the next, and the last is q
pub record IsWay (items : List Tree) (t : Tree) (q : Relation) (steps : List Relation) : Type 0 where
  pub first : asks_first t steps ≡ true
  pub chain : is_chain items (relation_of (item_head t)) steps ≡ true
  pub last : ends_with q steps ≡ true

-- such a way leads to one of some relations
abbrev pub IsWayToSome : List Tree → Tree → List Relation → List Relation → Type 0
IsWayToSome items t targets steps = (q : Relation) × IsAmong q targets × IsWay items t q steps
