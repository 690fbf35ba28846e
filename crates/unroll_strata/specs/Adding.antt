-- This crate's own: what `run` promises does not rest on it.
-- Items of which some relations are stated in another way, and to which others are added that they say nothing of.
use Rattle.std.specs.Prelude.{◌≡◌, ◌⊎◌, Bool, false, not, ◌&&◌, ◌||◌, List, ◌++◌, filter}
use Rattle.statement.specs.Tree.{Tree}
use Rattle.statement.specs.Clause.{Relation, relation_of}
use Rattle.statement.specs.Dependence.{IsAmong, is_among}
use Rattle.statement.specs.Items.{item_head, alternatives}
use Rattle.statement.specs.GoalsAndMoves.{dropped}
use Rattle.rules_relations.specs.Asking.{heads_it, asks_it, some_item}
use Rattle.meaning.specs.Possible.{IsStated, is_play}
use Rattle.meaning.specs.Extension.{base_relation, input_relation}

-- no item has the relation as its head or in its body, and it is no word by which play goes
abbrev pub IsUnspokenIn : List Tree → Relation → Type 0
IsUnspokenIn items p = (some_item (heads_it p) items ≡ false) × (some_item (asks_it p) items ≡ false) × (is_play p ≡ false)

-- the item heads one of these relations
abbrev pub heads_own : List Relation → Tree → Bool
heads_own own t = is_among (relation_of (item_head t)) own

-- the items of all relations but the own ones
abbrev pub kept_items : List Relation → List Tree → List Tree
kept_items own items = filter (λ t. not (heads_own own t)) items

-- but for those of own relations: the items, and behind them others with heads of which they say nothing
abbrev pub Rewrites : List Relation → List Tree → List Tree → Type 0
Rewrites own items out =
    (more : List Tree) × (kept_items own out ≡ kept_items own items ++ more)
    × ((t : Tree) → IsAmong t more → IsUnspokenIn items (relation_of (item_head t)))

-- the first state `base` and `input`, or no possible head of the second is without effect
abbrev pub HasItsRanges : List Tree → List Tree → Type 0
HasItsRanges items out =
    (IsStated (alternatives items) base_relation × IsStated (alternatives items) input_relation) ⊎ (dropped (alternatives out) ≡ 0)

-- the item heads a relation that is no own one, and stands in one of two lists or is a word by which play goes
abbrev pub heads_one_of : List Relation → List Relation → List Relation → Tree → Bool
heads_one_of own ps qs t =
    not (heads_own own t)
    && (is_among (relation_of (item_head t)) ps || (is_among (relation_of (item_head t)) qs || is_play (relation_of (item_head t))))
