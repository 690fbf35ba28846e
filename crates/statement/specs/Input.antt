-- Which bytes a run reads.
use Rattle.std.specs.Prelude.{ℕ, suc, ◌≡◌, List, Option, Some, None, drop, ⊤}
use Rattle.statement.specs.Reading.{text_limit}
use Rattle.statement.specs.Queries.{Query}
use Rattle.statement.specs.Answers.{Reply}
use Rattle.statement.specs.Replies.{IsReply}

-- one byte more than a text may have
abbrev pub read_limit : ℕ
read_limit = suc text_limit

-- The bytes are the whole input, where it is known what the reader gives, and of a longer input what
-- stands behind the limit is left unread.
abbrev pub IsWholeInput : Option (List ℕ) → Option (List ℕ) → List ℕ → Type 0
IsWholeInput None left bytes = ⊤
IsWholeInput (Some whole) None bytes = ⊥
IsWholeInput (Some whole) (Some left) bytes = (bytes ≡ whole) × (left ≡ drop read_limit whole)

-- the reply to a query over the input
abbrev pub RepliesTo : Query → Option (List ℕ) → Option (List ℕ) → Reply → Type 0
RepliesTo query old left reply = (bytes : List ℕ) × IsWholeInput old left bytes × IsReply query bytes reply
