-- This crate's own: what `run` promises does not rest on it.
-- Relations by number, and what items join by the numbers.
use Rattle.std.specs.Prelude.{ℕ, zero, suc, cond, List, [], ◌∷◌, ◌++◌}
use Rattle.statement.specs.Tree.{Tree}
use Rattle.statement.specs.Clause.{Literal, positive, negative, Relation, relation_of, relation_eq}
use Rattle.statement.specs.Items.{item_head}
use Rattle.statement.specs.Dependence.{is_distinct}
use Rattle.util_digraph.specs.declared.graph.Arrow.{Arrow}
use Rattle.rules.specs.declared.item_links.Links.{Links}
use Rattle.rules.specs.Arrows.{arrows_from}
use Rattle.rules_relations.specs.Asking.{body_literals, asked_relations}

-- the place of a relation, or the length of the list
abbrev pub number_in : List Relation → Relation → ℕ
number_in [] p = zero
number_in (q ∷ qs) p = cond (relation_eq p q) zero (suc (number_in qs p))

-- those of all relations but `distinct`
abbrev pub numbers_in : List Relation → List Relation → List ℕ
numbers_in known [] = []
numbers_in known (p ∷ ps) = cond (is_distinct p) (numbers_in known ps) (number_in known p ∷ numbers_in known ps)

-- the relations of the negated literals
abbrev pub negated_among : List Literal → List Relation
negated_among [] = []
negated_among (positive x ∷ ls) = negated_among ls
negated_among (negative x ∷ ls) = relation_of x ∷ negated_among ls

abbrev pub negated_relations : Tree → List Relation
negated_relations t = negated_among (body_literals t)

abbrev pub head_number : List Relation → Tree → ℕ
head_number known t = number_in known (relation_of (item_head t))

-- from the head of an item to each relation of its body but `distinct`
abbrev pub item_arrows : List Relation → Tree → List Arrow
item_arrows known t = arrows_from (head_number known t) (numbers_in known (asked_relations t))

abbrev pub items_arrows : List Relation → List Tree → List Arrow
items_arrows known [] = []
items_arrows known (t ∷ ts) = item_arrows known t ++ items_arrows known ts

-- the head of an item, and the negated relations of its body
abbrev pub negation_of : List Relation → Tree → ℕ × List ℕ
negation_of known t = (head_number known t, numbers_in known (negated_relations t))

abbrev pub link_in : Links → ℕ × List ℕ
link_in link = (link.head, link.body.items)
