-- This crate's own: what `run` promises does not rest on it.
-- Which relations are fixed, and the order of relations, in the items of a draft.
use Rattle.std.specs.Prelude.{ℕ, ◌≡◌, ◌<◌, Bool, false, not, List, length, map, All, Some, None, slice_index, slice_index_or}
use Rattle.statement.specs.Tree.{Tree}
use Rattle.rules.specs.declared.draft.Draft.{Draft}
use Rattle.statement.specs.declared.rule_fault.RuleFault.{RuleFault}
use Rattle.statement.specs.declared.rule_fault.RuleFault.TheVariants as errors
use Rattle.util_digraph.specs.declared.graph.Graph.{Graph}
use Rattle.util_digraph.specs.GraphView.{arrows_of, nodes_of}
use Rattle.rules.specs.Arrows.{arrows_in}
use Rattle.statement.specs.Dependence.{IsAcyclic, dependences, is_fixed}
use Rattle.rules.specs.Drafts.{IsDraftOf}
use Rattle.statement.specs.Items.{alternatives}
use Rattle.statement.specs.Order.{rank, relations_in_order}
use Rattle.statement.specs.Profile.{first_failing, recursive, bad_dependence, is_recursive, depends_badly}
use Rattle.rules_clauses.specs.Store.{Data, relation_at}
use Rattle.rules_clauses.specs.StoreView.{data_of}

-- the items have no fault of dependence, these relations are fixed, and those that head an item stand
-- in this order
pub record IsLayoutOf (d : Data) (items : List Tree) (fixed : List Bool) (order : List ℕ) : Type 0 where
  pub not_recursive : first_failing recursive (is_recursive (dependences (alternatives items))) 1 items ≡ None
  pub not_bad : first_failing bad_dependence (depends_badly (dependences (alternatives items)) (alternatives items)) 1 items ≡ None
  pub acyclic : IsAcyclic (alternatives items)
  pub each_fixed : length fixed ≡ length d.signatures
  pub fixed_are : (r : ℕ) → r < length d.signatures → slice_index_or fixed r false ≡ is_fixed (alternatives items) (relation_at d r)
  pub inside : All (λ r. r < length d.signatures) order
  pub in_order : map (λ r. relation_at d r) order ≡ relations_in_order (alternatives items)

-- the error is the fault of the dependences, or memory ran out
abbrev pub IsDependenceFault : List Tree → RuleFault → Type 0
IsDependenceFault items (errors.Recursive n) =
    first_failing recursive (is_recursive (dependences (alternatives items))) 1 items ≡ Some (recursive n)
IsDependenceFault items (errors.BadDependence n) =
    (first_failing recursive (is_recursive (dependences (alternatives items))) 1 items ≡ None)
    × (first_failing bad_dependence (depends_badly (dependences (alternatives items)) (alternatives items)) 1 items ≡ Some (bad_dependence n))
IsDependenceFault items errors.NoMemory = Unit {0}
IsDependenceFault items (errors.BadForm n) = ⊥
IsDependenceFault items (errors.BadKeyword n) = ⊥
IsDependenceFault items (errors.Unsafe n) = ⊥
IsDependenceFault items errors.NoRole = ⊥
IsDependenceFault items (errors.TooMany n excess) = ⊥

-- the draft is that of some items
abbrev pub IsSomeDraft : Draft → Type 0
IsSomeDraft draft = (items : List Tree) × IsDraftOf draft items

-- whatever items the draft is of, they have the property
abbrev pub OfItems : Draft → (List Tree → Type 0) → Type 0
OfItems draft P = (items : List Tree) → IsDraftOf draft items → P items

-- they have it if no relation depends on itself
abbrev pub OfAcyclic : Draft → (List Tree → Type 0) → Type 0
OfAcyclic draft P = OfItems draft (λ items. IsAcyclic (alternatives items) → P items)

abbrev pub relation_count : Draft → ℕ
relation_count draft = length (data_of draft.store).signatures

-- the graph has the relations as nodes, and the arrows of the links
pub record IsGraphOfDraft (draft : Draft) (graph : Graph) : Type 0 where
  pub nodes : nodes_of graph ≡ relation_count draft
  pub joined : arrows_of graph ≡ arrows_in draft.links.items

-- the marks say which relations are not fixed
pub record AreMoving (draft : Draft) (marks : List Bool) : Type 0 where
  pub counted : length marks ≡ relation_count draft
  pub exact : OfAcyclic draft (λ items. (r : ℕ) → r < relation_count draft
      → is_fixed (alternatives items) (relation_at (data_of draft.store) r) ≡ not (slice_index_or marks r false))

pub record AreRanksOfDraft (draft : Draft) (ranks : List ℕ) : Type 0 where
  pub counted : length ranks ≡ relation_count draft
  pub exact : OfAcyclic draft (λ items. (r : ℕ) → r < relation_count draft
      → slice_index ranks r ≡ rank (alternatives items) (relation_at (data_of draft.store) r))

pub record IsOrderOfDraft (draft : Draft) (order : List ℕ) : Type 0 where
  pub inside : All (λ r. r < relation_count draft) order
  pub exact : OfAcyclic draft (λ items. map (λ r. relation_at (data_of draft.store) r) order ≡ relations_in_order (alternatives items))

-- these relations are fixed, and those that head an alternative stand in this order
pub record RelationsLaid (draft : Draft) (fixed : List Bool) (order : List ℕ) : Type 0 where
  pub each_fixed : length fixed ≡ relation_count draft
  pub fixed_are : OfAcyclic draft (λ items. (r : ℕ) → r < relation_count draft
      → slice_index_or fixed r false ≡ is_fixed (alternatives items) (relation_at (data_of draft.store) r))
  pub ordered : IsOrderOfDraft draft order
