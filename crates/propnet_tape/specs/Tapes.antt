-- This crate's own: what `run` promises does not rest on it.
-- What a tape tells of the network that it was made of.
use Rattle.std.specs.Prelude.{ℕ, Bool, List, length, ◌≡◌, ◌<◌, ◌==◌, slice_index}
use Rattle.std.specs.Int.{bit_at}
use Rattle.propnet.specs.declared.net.Net.{Net}
use Rattle.propnet.specs.Values.{lane}
use Rattle.propnet.specs.Network.{given, value as node_value}
use Rattle.propnet.specs.Nets.{gates_of}
use Rattle.propnet.specs.Placing.{input_number}
use Rattle.propnet_tape.specs.declared.tape.Tape.{Tape}
use Rattle.propnet_tape.specs.Values.{slots, value, is_lane_on}

-- how many words a pass needs
abbrev pub slots_in : Tape → ℕ
slots_in t = slots t.first t.gates.items

-- how many nodes are kept
abbrev pub kept_in : Tape → ℕ
kept_in t = length t.kept.items

-- the value of a literal, where w tells the bit of each given word
abbrev pub literal_value : Tape → (ℕ → Bool) → ℕ → Bool
literal_value t w l = value t.first t.gates.items (λ i. w (slice_index t.sources.items i)) l

-- w tells which base propositions are in a state, and which inputs a joint move gives; base propositions come first, and then
-- the inputs by role
pub record AreSources (net : Net) (state : ℕ → ℕ) (joint : List ℕ) (w : ℕ → Bool) : Type 0 where
  pub bits : (p : ℕ) → state p < 2
  pub bases : (p : ℕ) → p < net.base → w p ≡ (state p == 1)
  pub moves : (r m : ℕ) → m < slice_index net.inputs.items r → w (input_number net.base net.inputs.items r m) ≡ (given joint r m == 1)

-- each kept node has a literal whose value is that of the node, in each state and for each joint move
pub record IsTapeOf (net : Net) (kept : List ℕ) (t : Tape) : Type 0 where
  pub size : kept_in t ≡ length kept
  pub values : (k : ℕ) → k < length kept → (state : ℕ → ℕ) (joint : List ℕ) (w : ℕ → Bool) → AreSources net state joint w
      → literal_value t w (slice_index t.kept.items k) ≡ (node_value (gates_of net) state joint (slice_index kept k) == 1)

-- the joint move has for each role one of its inputs
abbrev pub IsJointOf : Net → List ℕ → Type 0
IsJointOf net joint = (r : ℕ) → r < length net.inputs.items → (r < length joint) × (slice_index joint r < slice_index net.inputs.items r)

-- the same in each state, and for each joint move that has an input of each role
pub record IsTurnTapeOf (net : Net) (kept : List ℕ) (t : Tape) : Type 0 where
  pub size : kept_in t ≡ length kept
  pub values : (k : ℕ) → k < length kept → (state : ℕ → ℕ) (joint : List ℕ) (w : ℕ → Bool) → IsJointOf net joint → AreSources net state joint w
      → literal_value t w (slice_index t.kept.items k) ≡ (node_value (gates_of net) state joint (slice_index kept k) == 1)

-- the room has what a pass over the given words writes: in each lane, the value of each literal
pub record HasRun (t : Tape) (words room : List ℕ) : Type 0 where
  pub size : length room ≡ slots_in t
  pub values : (l s : ℕ) → l < 64 → s < slots_in t → is_lane_on room l s ≡ literal_value t (is_lane_on words l) s

-- lane l of the given words tells a state and a joint move: base propositions come first, and then the inputs by role; a word
-- that is not there is 0
pub record IsLane (net : Net) (words : List ℕ) (l : ℕ) (state : ℕ → ℕ) (joint : List ℕ) : Type 0 where
  pub bits : (p : ℕ) → state p < 2
  pub bases : (p : ℕ) → p < net.base → lane words l p ≡ state p
  pub moves : (r m : ℕ) → m < slice_index net.inputs.items r → lane words l (input_number net.base net.inputs.items r m) ≡ given joint r m

-- bit l of the word is the value of node n in the state and for the joint move of lane l
abbrev pub IsWordOf : Net → List ℕ → ℕ → ℕ → Type 0
IsWordOf net words n word = (l : ℕ) (state : ℕ → ℕ) (joint : List ℕ) → l < 64 → IsLane net words l state joint
    → bit_at word l ≡ node_value (gates_of net) state joint n

-- the same where the joint move has an input of each role
abbrev pub IsTurnWordOf : Net → List ℕ → ℕ → ℕ → Type 0
IsTurnWordOf net words n word = (l : ℕ) (state : ℕ → ℕ) (joint : List ℕ) → l < 64 → IsJointOf net joint → IsLane net words l state joint
    → bit_at word l ≡ node_value (gates_of net) state joint n
