-- This crate's own: what `run` promises does not rest on it.
-- Ground terms with the lengths of their texts.
use Rattle.std.specs.Prelude.{ℕ, suc, ◌+◌, ◌<◌, ◌≤◌, ◌≡◌, min, List, [], ◌∷◌, length, map, take, slice_index}
use Rattle.statement.specs.Tree.{Tree, text}
use Rattle.ground_terms.specs.Keys.{trees, AreKeys}
use Rattle.util_interner.specs.KeyLists.{key_at}
use Rattle.statement.specs.Most.{limits}

-- the lengths of the names of the symbols, and the keys
pub record Held : Type 0 where
  pub sizes : List ℕ
  pub keys : List (List ℕ)

-- a length, cut behind the longest text that is allowed
abbrev pub cut : ℕ → ℕ
cut n = min n (suc limits.text)

abbrev pub sizes_of : List (List ℕ) → List ℕ
sizes_of words = map (λ w. cut (length w)) words

abbrev pub lengths_of : List Tree → List ℕ
lengths_of terms = map (λ t. cut (length (text t))) terms

-- each key stands once, behind its parts, and the first keys are the symbols
pub record AreNumbered (many : ℕ) (keys : List (List ℕ)) : Type 0 where
  pub keyed : AreKeys many keys
  pub within : many ≤ length keys
  pub symbols : (s : ℕ) → s < many → key_at keys s ≡ s ∷ []

-- the length of a text of so many bytes once parts stand behind it, each with a space before it
abbrev pub with_parts : List ℕ → ℕ → List ℕ → ℕ
with_parts lengths total [] = total
with_parts lengths total (p ∷ ps) = with_parts lengths (cut (total + 1 + slice_index lengths p)) ps

-- the length of the text of a key: a list has two brackets
abbrev pub key_length : List ℕ → List ℕ → ℕ
key_length lengths [] = 0
key_length lengths (w ∷ []) = slice_index lengths w
key_length lengths (w ∷ (p ∷ ps)) = with_parts lengths (cut (slice_index lengths w + 2)) (p ∷ ps)

-- what stands in memory: keys, and beside each the length of its text for all names of the symbols that
-- have the lengths of the first
pub record IsHeld (many : ℕ) (lengths : List ℕ) (keys : List (List ℕ)) : Type 0 where
  pub numbered : AreNumbered many keys
  pub beside : length lengths ≡ length keys
  pub short : (i : ℕ) → slice_index lengths i ≤ suc limits.text
  pub texts : (words : List (List ℕ)) → sizes_of words ≡ take many lengths → lengths ≡ lengths_of (trees words keys)
