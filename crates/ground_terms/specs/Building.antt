-- This crate's own: what `run` promises does not rest on it.
-- Building terms and atoms from placed parts, with a stack of numbers.
use Rattle.std.specs.Prelude.{ℕ, zero, Bool, true, false, not, ◌&&◌, ◌-◌, ◌<◌, ◌≤◌, ◌≡◌, List, [], ◌∷◌, ◌++◌, length, map, reverse, take, drop, slice_index, ⊤}
use Rattle.statement.specs.Tree.{Tree, name, list, tree, trees_of}
use Rattle.rules_clauses.specs.declared.numbered.Part.{Part}
use Rattle.rules_clauses.specs.declared.numbered.Part.TheVariants as parts
use Rattle.rules_clauses.specs.Numbers.{BeginsWith, word_at}
use Rattle.rules_clauses.specs.Store.{count_terms}
use Rattle.rules_clauses.specs.Marks.{NumbersBelow}
use Rattle.ground_terms.specs.Keys.{with_key, term_at, trees}
use Rattle.util_interner.specs.KeyLists.{key_at}
use Rattle.ground_terms.specs.Arena.{Held, AreNumbered}

abbrev pub is_list : Part → Bool
is_list (parts.Variable p) = false
is_list (parts.Constant s) = false
is_list (parts.List s n) = true

-- no part is a list
abbrev pub are_flat : List Part → Bool
are_flat [] = true
are_flat (p ∷ ps) = not (is_list p) && are_flat ps

-- the number of the term that a placed part is, where it is no list
abbrev pub flat_number : List ℕ → Part → ℕ
flat_number values (parts.Variable p) = slice_index values p
flat_number values (parts.Constant s) = s
flat_number values (parts.List s n) = zero

-- the terms that placed parts are, with those behind them: `value` tells the term of a place
abbrev pub with_part : List (List ℕ) → (ℕ → Tree) → Part → List Tree → List Tree
with_part words value (parts.Variable p) behind = value p ∷ behind
with_part words value (parts.Constant s) behind = name (word_at words s) ∷ behind
with_part words value (parts.List s n) behind = list (tree (name (word_at words s)) (trees_of (take n behind))) ∷ drop n behind

abbrev pub ground_terms : List (List ℕ) → (ℕ → Tree) → List Part → List Tree → List Tree
ground_terms words value [] behind = behind
ground_terms words value (p ∷ ps) behind = with_part words value p (ground_terms words value ps behind)

-- each symbol is one of so many, each place too, and each list has terms
abbrev pub PartsPlaced : ℕ → ℕ → List Part → Type 0
PartsPlaced many places [] = ⊤
PartsPlaced many places (parts.Variable p ∷ ps) = (p < places) × PartsPlaced many places ps
PartsPlaced many places (parts.Constant s ∷ ps) = (s < many) × PartsPlaced many places ps
PartsPlaced many places (parts.List s n ∷ ps) = (s < many) × (0 < n) × PartsPlaced many places ps

-- the term of a place, by the numbers of terms in the places
abbrev pub place_value : List Tree → List ℕ → ℕ → Tree
place_value terms values p = term_at terms (slice_index values p)

-- the keys are as before, with more behind them
pub record HeldGrows (old new : Held) : Type 0 where
  pub sizes : new.sizes ≡ old.sizes
  pub keys : BeginsWith old.keys new.keys

-- the stack has the terms of parts more, the first on its top
pub record Builds (old new : Held) (values : List ℕ) (ps : List Part) (before after : List ℕ) : Type 0 where
  pub grows : HeldGrows old new
  pub top : List ℕ
  pub stack : after ≡ before ++ reverse top
  pub within : NumbersBelow (length new.keys) top
  pub count : length top ≡ count_terms ps
  pub terms : (words : List (List ℕ)) → map (term_at (trees words new.keys)) top ≡ ground_terms words (place_value (trees words new.keys) values) ps []

-- the key of a symbol and so many numbers from the top of a stack
abbrev pub top_key : ℕ → ℕ → List ℕ → List ℕ
top_key s n stack = s ∷ reverse (drop (length stack - n) stack)

-- k is the number of that key
pub record Interns (old new : Held) (key : List ℕ) (k : ℕ) : Type 0 where
  pub sizes : new.sizes ≡ old.sizes
  pub keys : new.keys ≡ with_key old.keys key
  pub numbered : AreNumbered (length new.sizes) new.keys
  pub within : k < length new.keys
  pub is : key_at new.keys k ≡ key

-- a part can be put on the stack
abbrev pub PartIsReady : Held → List ℕ → List ℕ → Part → Type 0
PartIsReady a values stack (parts.Variable p) = p < length values
PartIsReady a values stack (parts.Constant s) = s < length a.sizes
PartIsReady a values stack (parts.List s n) = (s < length a.sizes) × (n ≤ length stack) × NumbersBelow (length a.keys) (drop (length stack - n) stack)

-- a part is put on the stack: a list takes its own terms from it
abbrev pub PutsPart : Held → Held → List ℕ → Part → List ℕ → List ℕ → Type 0
PutsPart old new values (parts.Variable p) before after = (new ≡ old) × (after ≡ before ++ slice_index values p ∷ [])
PutsPart old new values (parts.Constant s) before after = (new ≡ old) × (after ≡ before ++ s ∷ []) × AreNumbered (length new.sizes) new.keys
PutsPart old new values (parts.List s n) before after =
    (k : ℕ) × (Interns old new (top_key s n before) k × (after ≡ take (length before - n) before ++ k ∷ []))
