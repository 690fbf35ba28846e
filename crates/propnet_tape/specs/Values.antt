-- This crate's own: what `run` promises does not rest on it.
-- The values of slots. A gate writes two: the and of two slots, and its negation.
use Rattle.std.specs.Prelude.{
  ℕ,
  zero,
  suc,
  Bool,
  false,
  not,
  ◌&&◌,
  ◌==◌,
  List,
  [],
  ◌∷◌,
  length,
  ◌≡◌,
  ◌+◌,
  ◌*◌,
  ◌^◌,
  ◌<◌,
  ◌≤◌,
  ◌%◌,
  ◌/◌,
  slice_index,
  if◌then◌else◌,
  ⊤,
}
use Rattle.std.specs.Int.{bit_at}
use Rattle.propnet_tape.specs.declared.gates.Gate.{Gate}

-- the values v with slot s and the next one written
abbrev pub written : (ℕ → Bool) → ℕ → Bool → ℕ → Bool
written v s x l = if l == s then x else (if l == s + 1 then not x else v l)

-- the values behind a pass over the gates, the first of which writes slot s
abbrev pub pass : ℕ → List Gate → (ℕ → Bool) → ℕ → Bool
pass s [] v l = v l
pass s (g ∷ gs) v l = pass (s + 2) gs (written v s (v g.a && v g.b)) l

-- how many slots there are
abbrev pub slots : ℕ → List Gate → ℕ
slots first gates = first + 2 * length gates

-- each gate reads slots before its own
abbrev pub InOrder : ℕ → List Gate → Type 0
InOrder s [] = ⊤
InOrder s (g ∷ gs) = (g.a < s) × (g.b < s) × InOrder (s + 2) gs

-- the slots of the constants and of what is given come in pairs, and then those of the gates in order
pub record IsTape (first : ℕ) (gates : List Gate) : Type 0 where
  pub some : 2 ≤ first
  pub pairs : first % 2 ≡ 0
  pub in_order : InOrder first gates
  pub small : slots first gates ≤ 2 ^ 32

-- slots 0 and 1 are false and true, and behind them come the given bits, each with its negation
abbrev pub given_node : (ℕ → Bool) → ℕ → Bool
given_node given zero = false
given_node given (suc k) = given k

abbrev pub start : (ℕ → Bool) → ℕ → Bool
start given l = if l % 2 == 0 then given_node given (l / 2) else not (given_node given (l / 2))

-- the value of a literal under given bits
unfoldable pub value : ℕ → List Gate → (ℕ → Bool) → ℕ → Bool
value first gates given l = pass first gates (start given) l

-- bit k of a word is 1, and of the word in slot l
abbrev pub is_bit_on : ℕ → ℕ → Bool
is_bit_on word k = bit_at word k == 1

abbrev pub is_lane_on : List ℕ → ℕ → ℕ → Bool
is_lane_on words k l = is_bit_on (slice_index words l) k
