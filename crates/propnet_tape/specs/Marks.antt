-- This crate's own: what `run` promises does not rest on it.
-- Marks on the nodes of a network that need a literal.
use Rattle.std.specs.Prelude.{ℕ, Bool, true, false, List, [], ◌∷◌, length, Some, ◌≡◌, ◌≤◌, slice_get, slice_index_or, All}
use Rattle.statement.specs.declared.node_name.Name.{Name}
use Rattle.statement.specs.declared.node_name.Name.TheVariants.{Base, Input, Not, And, View, Transition}
use Rattle.propnet.specs.Network.{Gate}

abbrev pub is_and_gate : Name → Bool
is_and_gate (Base p) = false
is_and_gate (Input r m) = false
is_and_gate (Not a) = false
is_and_gate (And i) = true
is_and_gate (View a) = false
is_and_gate (Transition p) = false

-- the node is the or of what it reads
abbrev pub is_or_gate : Name → Bool
is_or_gate (Base p) = false
is_or_gate (Input r m) = false
is_or_gate (Not a) = false
is_or_gate (And i) = false
is_or_gate (View a) = true
is_or_gate (Transition p) = true

abbrev pub is_marked : List Bool → ℕ → Bool
is_marked marks n = slice_index_or marks n false

abbrev pub AllMarked : List Bool → List ℕ → Type 0
AllMarked marks ns = All (λ n. is_marked marks n ≡ true) ns

-- the nodes whose and an or takes for node n: those that it reads if it is an and gate, else itself
abbrev pub term_nodes : Bool → ℕ → List ℕ → List ℕ
term_nodes true n reads = reads
term_nodes false n reads = n ∷ []

abbrev pub TermMarked : List Gate → List Bool → ℕ → Type 0
TermMarked gates marks n = (gate : Gate) → slice_get gates n ≡ Some gate → AllMarked marks (term_nodes (is_and_gate gate.name) n gate.reads)

abbrev pub TermsMarked : List Gate → List Bool → List ℕ → Type 0
TermsMarked gates marks ns = All (λ n. TermMarked gates marks n) ns

-- what a node needs is marked
abbrev pub IsCovered : Bool → List Gate → List Bool → List ℕ → Type 0
IsCovered true gates marks reads = TermsMarked gates marks reads
IsCovered false gates marks reads = AllMarked marks reads

-- there is a mark for each node, and what a marked node needs is marked, for the nodes from one on
pub record IsClosedFrom (gates : List Gate) (first : ℕ) (marks : List Bool) : Type 0 where
  pub count : length marks ≡ length gates
  pub closed : (n : ℕ) (gate : Gate) → first ≤ n → slice_get gates n ≡ Some gate → is_marked marks n ≡ true
      → IsCovered (is_or_gate gate.name) gates marks gate.reads
