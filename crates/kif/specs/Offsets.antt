-- This crate's own: what `run` promises does not rest on it.
-- What stands at an offset of a text, and which fault a text has, by offsets and counts.
use Rattle.std.specs.Prelude.{ℕ, suc, ◌+◌, Bool, true, not, ◌||◌, ◌==◌, ◌<◌, ◌≤◌, ◌≡◌, ◌≢◌, ◌⊎◌, List, length, map, take, count_by, slice_index}
use Rattle.std.specs.Prelude.{slice_range, ℤ, pos, ◌-ℤ◌}
use Rattle.statement.specs.Lexical.{is_space, is_name_byte, lower, IsInComment, visible, Token, opening, closing, word, stray}
use Rattle.statement.specs.Reading.{text_limit, name_limit, open_limit, TextFault, too_long, bad_byte, too_deep, unclosed, unopened, name_too_long}

abbrev pub is_opening : ℕ → Bool
is_opening b = b == 40

abbrev pub is_closing : ℕ → Bool
is_closing b = b == 41

-- neither white space, a name's byte nor a bracket
abbrev pub is_stray : ℕ → Bool
is_stray b = not (is_space b || is_name_byte b || is_opening b || is_closing b)

-- byte o is outside comments, and is such a byte
pub record IsByteAt (kind : ℕ → Bool) (text : List ℕ) (o : ℕ) : Type 0 where
  pub within : o < length text
  pub outside : IsInComment text o → ⊥
  pub byte : kind (slice_index text o) ≡ true

-- a longest run of name bytes outside comments goes from o up to end
pub record IsRun (text : List ℕ) (o end : ℕ) : Type 0 where
  pub further : o < end
  pub names : (k : ℕ) → o ≤ k → k < end → IsByteAt is_name_byte text k
  pub begins : (k : ℕ) → suc k ≡ o → IsByteAt is_name_byte text k → ⊥
  pub ends : IsByteAt is_name_byte text end → ⊥

-- the token stands at o: a bracket, a longest run of name bytes in lower case, or a stray byte
abbrev pub IsTokenAt : List ℕ → ℕ → Token → Type 0
IsTokenAt text o opening = IsByteAt is_opening text o
IsTokenAt text o closing = IsByteAt is_closing text o
IsTokenAt text o (word w) = (end : ℕ) × IsRun text o end × (w ≡ map lower (slice_range text o end))
IsTokenAt text o stray = IsByteAt is_stray text o

-- how many such bytes stand before o, outside comments
abbrev pub count_before : (ℕ → Bool) → List ℕ → ℕ → ℕ
count_before kind text o = count_by kind (take o (visible text))

-- how many lists are open before o: what was opened less what was closed
abbrev pub open_before : List ℕ → ℕ → ℤ
open_before text o = pos (count_before is_opening text o) -ℤ pos (count_before is_closing text o)

-- the fault stands in the text, alone or beside others
abbrev pub FaultStands : List ℕ → TextFault → Type 0
FaultStands text too_long = text_limit < length text
FaultStands text (bad_byte o) = IsByteAt is_stray text o
FaultStands text (too_deep o) = IsByteAt is_opening text o × (open_before text o ≡ pos open_limit)
FaultStands text (unopened o) = IsByteAt is_closing text o × (open_before text o ≡ pos 0)
FaultStands text (name_too_long o) = (end : ℕ) × IsRun text o end × (o + name_limit < end)
FaultStands text (unclosed o) = IsByteAt is_opening text o × ((p : ℕ) → o < p → p ≤ length text → open_before text p ≢ open_before text o)

-- the length is looked at before all else, and lists that are left open after all else
abbrev pub stage : TextFault → ℕ
stage too_long = 0
stage (bad_byte o) = 1
stage (too_deep o) = 1
stage (unopened o) = 1
stage (name_too_long o) = 1
stage (unclosed o) = 2

abbrev pub offset : TextFault → ℕ
offset too_long = 0
offset (bad_byte o) = o
offset (too_deep o) = o
offset (unopened o) = o
offset (name_too_long o) = o
offset (unclosed o) = o

-- f is named before g
abbrev pub Precedes : TextFault → TextFault → Type 0
Precedes f g = (stage f < stage g) ⊎ ((stage f ≡ stage g) × (offset f < offset g))

-- the fault stands in the text, and none that stands there precedes it
pub record IsFirstFault (text : List ℕ) (f : TextFault) : Type 0 where
  pub stands : FaultStands text f
  pub first : (g : TextFault) → FaultStands text g → Precedes g f → ⊥
