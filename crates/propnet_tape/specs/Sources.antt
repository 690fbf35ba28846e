-- This crate's own: what `run` promises does not rest on it.
-- The given words of a tape.
use Rattle.std.specs.Prelude.{ℕ, Bool, true, false, List, length, Option, Some, None, ◌≡◌, ◌+◌, ◌*◌, ◌<◌, ◌≤◌, slice_get, slice_index}
use Rattle.statement.specs.declared.node_name.Name.{Name}
use Rattle.statement.specs.declared.node_name.Name.TheVariants.{Base, Input, Not, And, View, Transition}
use Rattle.propnet.specs.Network.{Gate}
use Rattle.propnet_tape.specs.Marks.{is_marked}

abbrev pub is_source : Name → Bool
is_source (Base p) = true
is_source (Input r m) = true
is_source (Not a) = false
is_source (And i) = false
is_source (View a) = false
is_source (Transition p) = false

-- the number of the word that node n is given
abbrev pub source_word : Name → ℕ → Option ℕ
source_word (Base p) n = Some p
source_word (Input r m) n = Some n
source_word (Not a) n = None
source_word (And i) n = None
source_word (View a) n = None
source_word (Transition p) n = None

-- the literal is that of a word among those that stand in front of the gates
pub record IsGivenAt (words : List ℕ) (l word : ℕ) : Type 0 where
  pub place : ℕ
  pub slot : l ≡ 2 + 2 * place
  pub within : place < length words
  pub is : slice_index words place ≡ word

-- each marked node below n that is given has the literal of its word, and there are no more words than nodes
pub record AreSourcesOf (gates : List Gate) (marks : List Bool) (n : ℕ) (words literals : List ℕ) : Type 0 where
  pub count : length literals ≡ n
  pub few : length words ≤ n
  pub each : (m : ℕ) → m < n → (gate : Gate) (word : ℕ) → slice_get gates m ≡ Some gate → is_marked marks m ≡ true
      → source_word gate.name m ≡ Some word
      → IsGivenAt words (slice_index literals m) word
