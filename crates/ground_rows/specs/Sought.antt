-- This crate's own: what `run` promises does not rest on it.
-- Keys of atoms, of which only the values of variables are to be filled in.
use Rattle.std.specs.Prelude.{ℕ, ◌≡◌, ◌<◌, ◌+◌, ◌*◌, ◌%◌, ◌^◌, All, List, [], ◌∷◌, Option, Some, length, slice_get, slice_index, slice_index_or, slice_set, take, IfNone, IfSome}
use Rattle.rules_clauses.specs.declared.numbered.Part.{Part}
use Rattle.rules_clauses.specs.Marks.{literal_in, NumbersBelow}
use Rattle.rules_clauses.specs.Numbers.{BeginsWith}
use Rattle.rules_clauses.specs.Signatures.{signature_at}
use Rattle.rules_clauses.specs.Store.{Data}
use Rattle.util_interner.specs.KeyTables.{key_hash}
use Rattle.ground_rows.specs.declared.kept_keys.Blank.{Blank}
use Rattle.ground_rows.specs.declared.kept_keys.BlankKey.{BlankKey}
use Rattle.ground_rows.specs.declared.kept_keys.Sought.{Sought}
use Rattle.ground_rows.specs.Pairs.{HaveSameValues, IsKeyOf}
use Rattle.ground_rows.specs.Settled.{Settles, AreAbsent}

-- where one number of a key of so many goes up, the hash of the key goes up by the weight for each one more
abbrev pub Weighs : ℕ → ℕ → ℕ → Type 0
Weighs many at weight =
    (key : List ℕ) (v more : ℕ) → length key ≡ many → v % 2 ^ 64 ≡ (slice_index key at + more) % 2 ^ 64
    → key_hash 0 (slice_set key at v) ≡ (key_hash 0 key + more * weight) % 2 ^ 64

-- a blank stands in a key of so many numbers, and has its weight there
pub record IsBlank (many : ℕ) (b : Blank) : Type 0 where
  pub within : b.at < many
  pub weighs : Weighs many b.at b.weight

-- the hash is that of the key, and the blanks stand in it
pub record IsHashed (s : BlankKey) : Type 0 where
  pub hash : s.hash ≡ key_hash 0 s.key.items
  pub blanks : All (λ b. IsBlank (length s.key.items) b) s.blanks.items

-- each blank has a value
abbrev pub HaveValues : List ℕ → List Blank → Type 0
HaveValues values bs = All (λ b. b.place < length values) bs

-- a key with the values in its blanks
abbrev pub filled : List ℕ → List Blank → List ℕ → List ℕ
filled values [] key = key
filled values (b ∷ bs) key = filled values bs (slice_set key b.at (slice_index values b.place))

-- whatever the values are, the key with them is that of the atom with a word and parts with places
abbrev pub Fills : ℕ → List Part → List Blank → List ℕ → Type 0
Fills word ps bs key = (values : List ℕ) → HaveValues values bs → IsKeyOf values word ps (filled values bs key)

-- rows with the same values up to a place have the same in these parts
abbrev pub StandUpTo : List Part → ℕ → Type 0
StandUpTo ps last = (xs ys : List ℕ) → take (last + 1) xs ≡ take (last + 1) ys → HaveSameValues xs ys ps

-- a key with blanks is that of the atom with a word and parts with places
pub record IsBlankKey (word : ℕ) (ps : List Part) (b : BlankKey) : Type 0 where
  pub hashed : IsHashed b
  pub fills : Fills word ps b.blanks.items b.key.items

-- and so it is with the numbers of lists, from some time on
pub record IsSettledKey (first : List (List ℕ)) (word : ℕ) (ps : List Part) (b : BlankKey) : Type 0 where
  pub settled : List Part
  pub settles : (words : List (List ℕ)) → Settles words first ps settled
  pub is : IsBlankKey word settled b

-- what is kept of such an atom is right from some time on
pub record IsSought (first : List (List ℕ)) (word : ℕ) (ps : List Part) (s : Sought) : Type 0 where
  pub key : IfSome s.key (λ b. IsSettledKey first word ps b)
  pub absent : IfNone s.key ((words : List (List ℕ)) → AreAbsent words first ps)
  pub last : StandUpTo ps s.last

-- the word of the atom of a literal
abbrev pub word_in : Data → ℕ → ℕ
word_in d n = (signature_at d.signatures (literal_in d n).atom.relation).word

-- what is kept at a place, if there is something, is right of a literal with these parts with places
abbrev pub IsSoughtAt : Data → List (List ℕ) → List (Option Sought) → ℕ → ℕ → List Part → Type 0
IsSoughtAt d first os i n ps = (s : Sought) → slice_get os i ≡ Some (Some s) → IsSought first (word_in d n) ps s

-- and so is what is kept at the place of each literal
abbrev pub AreSought : Data → List (List ℕ) → List ℕ → List (List Part) → List (Option Sought) → Type 0
AreSought d first ns pss os = (i : ℕ) → IsSoughtAt d first os i (slice_index ns i) (slice_index_or pss i [])

-- the terms that were there first are still there, and these numbers are some of theirs
pub record AreSince (first keys : List (List ℕ)) (numbers : List ℕ) : Type 0 where
  pub front : BeginsWith first keys
  pub below : NumbersBelow (length first) numbers
