-- This crate's own: what `run` promises does not rest on it.
-- What the alternatives of items join, by the numbers of relations.
use Rattle.std.specs.Prelude.{ℕ, ◌-◌, ◌<◌, ◌≤◌, ◌≡◌, Bool, false, cond, ◌==◌, List, length, slice_index, slice_index_or, All, Option, MatchOption}
use Rattle.std.specs.List.{list_any, AllWithin, HoldsAt}
use Rattle.statement.specs.Tree.{Tree}
use Rattle.rules.specs.declared.item_links.Links.{Links}
use Rattle.rules.specs.declared.item_links.Bound.{Bound}
use Rattle.rules.specs.declared.item_links.Bound.TheVariants.{NoMove, FixedOnly, Free}
use Rattle.util_digraph.specs.declared.graph.Arrow.{Arrow}
use Rattle.statement.specs.declared.rule_fault.RuleFault.{RuleFault}
use Rattle.statement.specs.declared.rule_fault.RuleFault.TheVariants as errors
use Rattle.util_digraph.specs.Graph.{IsReachedFrom}
use Rattle.statement.specs.Words.{w_base, w_input, w_init, w_legal, w_goal, w_terminal}
use Rattle.statement.specs.Clause.{Relation, relation_of, is_word}
use Rattle.statement.specs.Items.{item_head, item_alternatives}
use Rattle.rules.specs.Numbering.{AreBodyNumbers}

-- the numbers are below n
pub record LinksWithin (n : ℕ) (link : Links) : Type 0 where
  pub head : link.head < n
  pub body : All (λ number. number < n) link.body.items

-- the n-th element, counted from 1, is the first that has a property
pub record IsNumberOfFirst {X : Type 0} (P : X → Type 0) (xs : List X) (n : ℕ) : Type 0 where
  pub counted : 0 < n
  pub inside : n ≤ length xs
  pub has : HoldsAt P xs (n - 1)
  pub before : AllWithin (λ x. ¬ P x) xs 0 (n - 1)

abbrev pub IsFirstSuch : {X : Type 0} → (X → Type 0) → List X → Option ℕ → Type 0
IsFirstSuch P xs found = MatchOption found (All (λ x. ¬ P x) xs) (IsNumberOfFirst P xs)

-- some number of the list is marked
abbrev pub some_marked : List Bool → List ℕ → Bool
some_marked marks numbers = list_any (λ number. slice_index_or marks number false) numbers

abbrev pub leads_badly_under : Bound → List Bool → List Bool → List ℕ → Bool
leads_badly_under NoMove on_moves moving body = some_marked on_moves body
leads_badly_under FixedOnly on_moves moving body = some_marked moving body
leads_badly_under Free on_moves moving body = false

-- the body rests on what the head may not rest on
abbrev pub leads_badly : List Bound → List Bool → List Bool → Links → Bool
leads_badly bounds on_moves moving link = leads_badly_under (slice_index_or bounds link.head Free) on_moves moving link.body.items

-- the body has a relation with the component of the head
abbrev pub meets_component : List ℕ → Links → Bool
meets_component components link = list_any (λ node. slice_index components node == slice_index components link.head) link.body.items

-- what a relation may rest on
abbrev pub bound_of : Relation → Bound
bound_of p =
    cond (is_word w_legal 2 p) NoMove
    (cond (is_word w_goal 2 p) NoMove
    (cond (is_word w_terminal 0 p) NoMove
    (cond (is_word w_base 1 p) FixedOnly
    (cond (is_word w_input 2 p) FixedOnly
    (cond (is_word w_init 1 p) FixedOnly Free)))))

-- the links are those of the item
pub record IsLinked (n : ℕ) (name : ℕ → Relation) (item : Tree) (link : Links) : Type 0 where
  pub head_in : link.head < n
  pub named : name link.head ≡ relation_of (item_head item)
  pub body : AreBodyNumbers n name (item_alternatives item) link.body.items

pub record AreLinks (n : ℕ) (name : ℕ → Relation) (items : List Tree) (links : List Links) : Type 0 where
  pub length_is : length links ≡ length items
  pub each : (k : ℕ) (t : Tree) (l : Links) → k < length items → IsLinked n name (slice_index_or items k t) (slice_index_or links k l)

-- the bounds of the numbers are those of their relations
abbrev pub AreBounds : ℕ → (ℕ → Relation) → List Bound → Type 0
AreBounds n name bounds = (i : ℕ) → i < n → slice_index_or bounds i Free ≡ bound_of (name i)

-- the error is the first item of which a body rests on its head, or memory ran out
abbrev pub IsCycleFault : List Arrow → List Links → RuleFault → Type 0
IsCycleFault arrows links (errors.Recursive n) = IsNumberOfFirst (λ link. IsReachedFrom arrows link.body.items link.head) links n
IsCycleFault arrows links errors.NoMemory = Unit {0}
IsCycleFault arrows links (errors.BadForm n) = ⊥
IsCycleFault arrows links (errors.BadKeyword n) = ⊥
IsCycleFault arrows links (errors.Unsafe n) = ⊥
IsCycleFault arrows links (errors.BadDependence n) = ⊥
IsCycleFault arrows links errors.NoRole = ⊥
IsCycleFault arrows links (errors.TooMany n excess) = ⊥
