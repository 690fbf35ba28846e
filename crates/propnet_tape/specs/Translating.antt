-- This crate's own: what `run` promises does not rest on it.
-- From the nodes of a network to literals.
use Rattle.std.specs.Prelude.{ℕ, Bool, true, List, [], ◌∷◌, ◌++◌, map, length, Some, slice_get, slice_index_or, ◌≡◌, ◌+◌, ◌*◌, ◌<◌, ◌==◌, slice_index, All}
use Rattle.propnet.specs.declared.net.Net.{Net}
use Rattle.propnet.specs.Network.{Gate, value as node_value}
use Rattle.propnet.specs.Nets.{gates_of}
use Rattle.propnet_tape.specs.declared.builder.Builder.{Builder}
use Rattle.propnet_tape.specs.Building.{slots_of, signal_value, AreOneOf, IsBuilt}
use Rattle.propnet_tape.specs.Marks.{is_and_gate, is_marked, term_nodes}
use Rattle.propnet_tape.specs.declared.builder.Group.{Group}
use Rattle.propnet_tape.specs.declared.tape.Tape.{Tape}
use Rattle.propnet_tape.specs.Tapes.{AreSources, kept_in, literal_value}

-- what an or takes for node n: the and of what it reads if it is an and gate, else its literal
abbrev pub IsTermOf : List Gate → List ℕ → ℕ → List ℕ → Type 0
IsTermOf gates literals n term = (gate : Gate) → slice_get gates n ≡ Some gate
    → term ≡ map (λ m. slice_index literals m) (term_nodes (is_and_gate gate.name) n gate.reads)

-- there is one more term, which is that of node n
pub record IsTermAdded (gates : List Gate) (literals : List ℕ) (n : ℕ) (old new : List (List ℕ)) : Type 0 where
  pub term : List ℕ
  pub is : IsTermOf gates literals n term
  pub added : new ≡ old ++ term ∷ []

-- a term for each of some nodes
pub record NodeTerms (gates : List Gate) (literals numbers : List ℕ) (terms : List (List ℕ)) : Type 0 where
  pub size : length terms ≡ length numbers
  pub each : (k : ℕ) (d : List ℕ) → k < length numbers → IsTermOf gates literals (slice_index numbers k) (slice_index_or terms k d)

-- the literal has the value of node n, where the words that stand in front of the gates are those of a state and a joint move, and
-- one of each group is 1
pub record IsMeant (net : Net) (words : List ℕ) (b : Builder) (l n : ℕ) : Type 0 where
  pub slot : l < slots_of b
  pub value : (state : ℕ → ℕ) (joint : List ℕ) (w : ℕ → Bool) → AreSources net state joint w → AreOneOf b.groups.items (λ i. w (slice_index words i))
      → signal_value b (λ i. w (slice_index words i)) l ≡ (node_value (gates_of net) state joint n == 1)

-- the literals of the marked nodes below n
pub record IsTranslated (net : Net) (marks : List Bool) (words : List ℕ) (n : ℕ) (b : Builder) (literals : List ℕ) : Type 0 where
  pub built : IsBuilt b
  pub first : b.first ≡ 2 + 2 * length words
  pub count : length literals ≡ n
  pub values : (m : ℕ) → m < n → is_marked marks m ≡ true → IsMeant net words b (slice_index literals m) m

-- each kept node has its literal, and there is one for each node
pub record NodesKept (net : Net) (words kept : List ℕ) (b : Builder) (literals : List ℕ) : Type 0 where
  pub built : IsBuilt b
  pub first : b.first ≡ 2 + 2 * length words
  pub count : length literals ≡ length (gates_of net)
  pub meant : All (λ n. IsMeant net words b (slice_index literals n) n) kept

-- each kept node has a literal whose value is that of the node, in each state and for each joint move under which one of each group is 1
pub record IsGroupTapeOf (net : Net) (kept words : List ℕ) (groups : List Group) (t : Tape) : Type 0 where
  pub size : kept_in t ≡ length kept
  pub given : t.sources.items ≡ words
  pub values : (k : ℕ) → k < length kept → (state : ℕ → ℕ) (joint : List ℕ) (w : ℕ → Bool) → AreSources net state joint w
      → AreOneOf groups (λ i. w (slice_index words i))
      → literal_value t w (slice_index t.kept.items k) ≡ (node_value (gates_of net) state joint (slice_index kept k) == 1)
