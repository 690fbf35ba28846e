-- This crate's own: what `run` promises does not rest on it.
-- The components of a graph, and how far a walk that finds them has come.
use Rattle.std.specs.Prelude.{ℕ, suc, zero, ◌+◌, ◌-◌, ◌*◌, ◌<◌, ◌≤◌, ◌≡◌, ◌≢◌, ◌⊎◌, ◌↔◌, List, [], ◌∷◌, ◌++◌, length, slice_index, slice_set, sum_by, take}
use Rattle.util_digraph.specs.declared.graph.Arrow.{Arrow}
use Rattle.util_digraph.specs.declared.components.Walk.{Walk}
use Rattle.util_digraph.specs.Graph.{arrow_at, Reaches}

-- p is q, or reaches it
abbrev pub LeadsOn : List Arrow → ℕ → ℕ → Type 0
LeadsOn arrows p q = (p ≡ q) ⊎ Reaches arrows p q

-- two nodes have the same number exactly where each leads to the other
pub record AreComponents (arrows : List Arrow) (n : ℕ) (numbers : List ℕ) : Type 0 where
  pub length_is : length numbers ≡ n
  pub exact : (p q : ℕ) → p < n → q < n → (slice_index numbers p ≡ slice_index numbers q) ↔ (LeadsOn arrows p q × LeadsOn arrows q p)

-- the node was seen and has no number yet
pub record IsOpen (n : ℕ) (places numbers : List ℕ) (p : ℕ) : Type 0 where
  pub inside : p < n
  pub unnumbered : slice_index numbers p ≡ 0
  pub placed : 0 < slice_index places p

-- the node has a number, or stands in the group of p or behind it: no group begins behind p and not behind the node
abbrev pub StandsBehind : List ℕ → List ℕ → ℕ → ℕ → Type 0
StandsBehind places starts p q = (0 < slice_index places q) × ((j : ℕ) → j < length starts → slice_index starts j < slice_index places p
    → slice_index starts j < slice_index places q)

abbrev pub ComesBehind : List ℕ → List ℕ → List ℕ → ℕ → ℕ → Type 0
ComesBehind places starts numbers p q = (0 < slice_index numbers q) ⊎ StandsBehind places starts p q

-- what an arrow from p to q that was followed tells
pub record IsPassed (places starts numbers : List ℕ) (p q : ℕ) : Type 0 where
  pub numbered : 0 < slice_index numbers p → (0 < slice_index numbers q) × (slice_index numbers q ≤ slice_index numbers p)
  pub standing : slice_index numbers p ≡ 0 → 0 < slice_index places p → ComesBehind places starts numbers p q

abbrev pub unseen : ℕ → ℕ
unseen zero = 1
unseen (suc place) = 0

-- The first m nodes were seen. Nodes that were seen and have no number stand in groups of nodes that lead to each
-- other, and each group leads to those behind it. Arrows behind the ends were followed.
pub record Grouping (arrows : List Arrow) (n m : ℕ) (ends places open' starts pending numbers : List ℕ) (count : ℕ) : Type 0 where
  pub ends_are : length ends ≡ n
  pub places_are : length places ≡ n
  pub numbers_are : length numbers ≡ n
  pub end_in : (p : ℕ) → p < n → slice_index ends p ≤ length arrows
  pub end_own : (p : ℕ) → p < n → 0 < slice_index ends p → (arrow_at arrows (slice_index ends p - 1)).from ≡ p
  pub started : (p : ℕ) → p < m → 0 < slice_index places p
  pub hidden : (p : ℕ) → p < n → slice_index places p ≡ 0 → slice_index numbers p ≡ 0
  pub fresh : (p k : ℕ) → p < n → slice_index places p ≡ 0 → k < length arrows → slice_index ends p ≤ k → (arrow_at arrows k).from ≢ p
  pub listed : (p : ℕ) → IsOpen n places numbers p → (slice_index places p ≤ length open') × (slice_index open' (slice_index places p - 1) ≡ p)
  pub are_open : (i : ℕ) → i < length open' → IsOpen n places numbers (slice_index open' i) × (slice_index places (slice_index open' i) ≡ i + 1)
  pub some_start : 0 < length open' → 0 < length starts
  pub first_start : 0 < length starts → slice_index starts 0 ≡ 0
  pub start_in : (j : ℕ) → j < length starts → slice_index starts j < length open'
  pub rising_starts : (i j : ℕ) → i < j → j < length starts → slice_index starts i < slice_index starts j
  pub forward : (p q : ℕ) → IsOpen n places numbers p → IsOpen n places numbers q → slice_index places p ≤ slice_index places q → LeadsOn arrows p q
  pub back : (p q : ℕ) → IsOpen n places numbers p → IsOpen n places numbers q → slice_index places p ≤ slice_index places q
      → ((j : ℕ) → j < length starts → slice_index starts j < slice_index places q → slice_index starts j < slice_index places p) → LeadsOn arrows q p
  pub passed : (k : ℕ) → k < length arrows → slice_index ends (arrow_at arrows k).from ≤ k
      → IsPassed places starts numbers (arrow_at arrows k).from (arrow_at arrows k).to
  pub pending_in : (j : ℕ) → j < length pending → slice_index pending j < length open'
  pub rising_pending : (i j : ℕ) → i < j → j < length pending → slice_index pending i < slice_index pending j
  pub waiting : (p : ℕ) → IsOpen n places numbers p → 0 < slice_index ends p → (j : ℕ) × (j < length pending)
      × (slice_index pending j + 1 ≡ slice_index places p)
  pub at_most : (p : ℕ) → p < n → slice_index numbers p ≤ count
  pub together : (p q : ℕ) → p < n → q < n → 0 < slice_index numbers p → slice_index numbers p ≡ slice_index numbers q → LeadsOn arrows p q
  pub settled : (p : ℕ) → p < n → 0 < slice_index numbers p → slice_index ends p ≡ 0
  pub room : count + length starts + sum_by unseen places ≤ n

abbrev pub IsWalk : List Arrow → ℕ → ℕ → Walk → Type 0
IsWalk arrows n m w = Grouping arrows n m w.ends.items w.places.items w.open_nodes.items w.starts.items w.pending.items w.numbers.items w.count

-- what is left to do: arrows to follow, pending nodes to take away, groups to close, and nodes to see
abbrev pub work_left : List ℕ → List ℕ → List ℕ → List ℕ → ℕ
work_left ends places starts pending = sum_by (λ x. x) ends + (length pending + (length starts + 3 * sum_by unseen places))

abbrev pub work_of : Walk → ℕ
work_of w = work_left w.ends.items w.places.items w.starts.items w.pending.items

-- the starts that are left are those up to a place
pub record StartsCut (old new : List ℕ) (place : ℕ) : Type 0 where
  pub some : 0 < length new
  pub fewer : length new ≤ length old
  pub kept : (j : ℕ) → j < length new → slice_index new j ≡ slice_index old j
  pub last : slice_index new (length new - 1) ≤ place
  pub behind : (j : ℕ) → length new ≤ j → j < length old → place < slice_index old j

-- the nodes from a place on have the number, and all others what they had
pub record AreNumberedFrom (old new nodes : List ℕ) (from number : ℕ) : Type 0 where
  pub length_is : length new ≡ length old
  pub here : (i : ℕ) → from ≤ i → i < length nodes → slice_index new (slice_index nodes i) ≡ number
  pub others : (p : ℕ) → ((i : ℕ) → from ≤ i → i < length nodes → slice_index nodes i ≢ p) → slice_index new p ≡ slice_index old p

-- the last group, of the open nodes from this place on, was given the next number
pub record HasClosed (old new : Walk) (start : ℕ) : Type 0 where
  pub starts : old.starts.items ≡ new.starts.items ++ start ∷ []
  pub listed : new.open_nodes.items ≡ take start old.open_nodes.items
  pub numbers : AreNumberedFrom old.numbers.items new.numbers.items old.open_nodes.items start (old.count + 1)
  pub count : new.count ≡ old.count + 1
  pub ends : new.ends.items ≡ old.ends.items
  pub places : new.places.items ≡ old.places.items
  pub pending : new.pending.items ≡ old.pending.items

-- what was seen where an arrow leads: nothing new, a node that is opened, or groups that are joined
pub data IsLookedAt (old new : Walk) (target : ℕ) : Type 0 where
  numbered : 0 < slice_index old.numbers.items target → new.places.items ≡ old.places.items → new.open_nodes.items ≡ old.open_nodes.items
      → new.starts.items ≡ old.starts.items
      → new.pending.items ≡ old.pending.items → new.numbers.items ≡ old.numbers.items → new.count ≡ old.count → IsLookedAt old new target
  opened : slice_index old.places.items target ≡ 0 → new.places.items ≡ slice_set old.places.items target (length old.open_nodes.items + 1)
      → new.open_nodes.items ≡ old.open_nodes.items ++ target ∷ []
      → new.starts.items ≡ old.starts.items ++ length old.open_nodes.items ∷ []
      → new.pending.items ≡ old.pending.items ++ length old.open_nodes.items ∷ []
      → new.numbers.items ≡ old.numbers.items → new.count ≡ old.count → IsLookedAt old new target
  joined : slice_index old.numbers.items target ≡ 0 → 0 < slice_index old.places.items target
      → StartsCut old.starts.items new.starts.items (slice_index old.places.items target - 1)
      → new.places.items ≡ old.places.items → new.open_nodes.items ≡ old.open_nodes.items → new.pending.items ≡ old.pending.items
      → new.numbers.items ≡ old.numbers.items → new.count ≡ old.count
      → IsLookedAt old new target
