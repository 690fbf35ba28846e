-- This crate's own: what `run` promises does not rest on it.
-- What a session keeps, what it takes of the input, and what answers that.
use Rattle.std.specs.Prelude.{ℕ, suc, ◌≡◌, ◌≢◌, ◌≤◌, ◌<◌, ◌⊎◌, Bool, true, false, List, [], ◌∷◌, ◌++◌, length, take, Option, Some, None, Result, Ok, Err}
use Rattle.std.specs.Io.KnownBytes.{Consumes, IsAtEnd}
use Rattle.statement.specs.Input.{read_limit}
use Rattle.program_requests.specs.declared.fault.ReadFault.{ReadFault}
use Rattle.program_requests.specs.declared.desk.Desk.{Desk}
use Rattle.program_requests.specs.declared.desk.Taken.{Taken}
use Rattle.program_requests.specs.declared.desk.Taken.TheVariants.{Line, Rules, Starved, LastLine, Cut, Nothing}
use Rattle.program_requests.specs.Feeds.{IsFeed, HasFront, ahead}
use Rattle.program_requests.specs.Lines.{line_limit, IsLine, AsksForNoRules}
use Rattle.program_requests.specs.Frames.{taken_frame, starved_frame, cut_frame}
use Rattle.program_requests.specs.Sessions.{IsRulesLine, AnswersLine}

-- of the rules that stand as much is kept as a run reads
abbrev pub Stand : List ℕ → List ℕ → Type 0
Stand kept rules = kept ≡ take read_limit rules

-- a desk has place for one byte more than a line may have
pub record IsDesk (d : Desk) : Type 0 where
  pub feed : IsFeed d.feed
  pub room : length d.line.room.items ≡ suc line_limit
  pub within : d.line.filled ≤ length d.line.room.items

-- the rules that are kept
abbrev pub rules_kept : Desk → List ℕ
rules_kept d = d.rules.items

-- the bytes to come, where it is known what the reader gives
abbrev pub to_come : Desk → Option (List ℕ) → Option (List ℕ)
to_come d remaining = ahead d.feed remaining

-- a line is in the room that asks for no rules if it is not too long
abbrev pub HasLine : Desk → List ℕ → Type 0
HasLine d line = IsLine line × HasFront d.line line × (length line ≤ line_limit → AsksForNoRules line)

-- the rules behind a line that asks for them are too few
abbrev pub IsCutShort : List ℕ → Type 0
IsCutShort bytes =
    ((n : ℕ) × IsRulesLine bytes n)
    ⊎ ((line : List ℕ) × (text : List ℕ) × (n : ℕ) × IsRulesLine line n × (bytes ≡ line ++ 10 ∷ text) × (length text < n))

-- what was taken behind a line that asks for rules of this size
abbrev pub AreRulesTaken : ℕ → Result Taken ReadFault → Desk → Option (List ℕ) → Option (List ℕ) → Type 0
AreRulesTaken size (Ok Line) now old new = ⊥
AreRulesTaken size (Ok Rules) now old new =
    (text : List ℕ) × (length text ≡ size) × Stand now.rules.items text × Consumes old new text
AreRulesTaken size (Ok Starved) now old new =
    (text : List ℕ) × (length text ≡ size) × (now.rules.items ≡ []) × Consumes old new text
AreRulesTaken size (Ok LastLine) now old new = ⊥
AreRulesTaken size (Ok Cut) now old new = (text : List ℕ) × (length text < size) × Consumes old new text × IsAtEnd new
AreRulesTaken size (Ok Nothing) now old new = ⊥
AreRulesTaken size (Err fault) now old new = (bytes : List ℕ) × Consumes old new bytes

-- what is taken with the line that the input ends with, by how many bytes of rules it asks for and whether it is empty
abbrev pub last_taken : Option ℕ → Bool → Taken
last_taken (Some n) empty = Cut
last_taken None true = Nothing
last_taken None false = LastLine

-- what was taken by the desk
abbrev pub IsTaken : Result Taken ReadFault → Desk → Desk → Option (List ℕ) → Option (List ℕ) → Type 0
IsTaken (Ok Line) was now old new =
    (line : List ℕ) × HasLine now line × Consumes old new (line ++ 10 ∷ []) × (now.rules.items ≡ was.rules.items)
IsTaken (Ok Rules) was now old new =
    (line : List ℕ) × (text : List ℕ) × (n : ℕ) × IsRulesLine line n × (length text ≡ n) × Stand now.rules.items text
    × Consumes old new (line ++ 10 ∷ text)
IsTaken (Ok Starved) was now old new =
    (line : List ℕ) × (text : List ℕ) × (n : ℕ) × IsRulesLine line n × (length text ≡ n) × (now.rules.items ≡ [])
    × Consumes old new (line ++ 10 ∷ text)
IsTaken (Ok LastLine) was now old new =
    (line : List ℕ) × HasLine now line × (line ≢ []) × Consumes old new line × IsAtEnd new × (now.rules.items ≡ was.rules.items)
IsTaken (Ok Cut) was now old new = (bytes : List ℕ) × IsCutShort bytes × Consumes old new bytes × IsAtEnd new
IsTaken (Ok Nothing) was now old new = Consumes old new [] × IsAtEnd new
IsTaken (Err fault) was now old new = (bytes : List ℕ) × Consumes old new bytes

-- whether the input ended with what was taken
abbrev pub goes_on : Taken → Bool
goes_on Line = true
goes_on Rules = true
goes_on Starved = true
goes_on LastLine = false
goes_on Cut = false
goes_on Nothing = false

-- the frame answers what was taken, where this is told of a line over rules
module _ (IsTold : List ℕ → ℕ → List ℕ → Type 0) where
  abbrev pub AnswersDesk : Desk → List ℕ → Type 0
  AnswersDesk d out = (line : List ℕ) (rules : List ℕ) → HasLine d line → Stand d.rules.items rules → AnswersLine IsTold rules line out

  abbrev pub IsFrameOf : Taken → Desk → List ℕ → Type 0
  IsFrameOf Line d out = AnswersDesk d out
  IsFrameOf Rules d out = out ≡ taken_frame
  IsFrameOf Starved d out = out ≡ starved_frame
  IsFrameOf LastLine d out = AnswersDesk d out
  IsFrameOf Cut d out = out ≡ cut_frame
  IsFrameOf Nothing d out = out ≡ []
