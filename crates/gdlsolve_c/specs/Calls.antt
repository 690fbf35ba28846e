-- This crate's own: what `run` promises does not rest on it.
-- What a call leaves in the caller's memory.
use Rattle.std.specs.Prelude.{ℕ, ◌≡◌, List, ◌++◌, length, take, drop}
use Rattle.statement.specs.declared.status.Status.{Status}
use Rattle.statement.specs.declared.width.Width.TheVariants.{Plain}
use Rattle.statement.specs.Replies.{IsReply}
use Rattle.program_words.specs.Asked.{query_of}
use Rattle.program_words.specs.Requests.{IsCommandIn}
use Rattle.program_words.specs.declared.command.Command.{Command}

-- a room with the bytes at its front, as many as it has place for, and behind them what stood there
abbrev pub filled : List ℕ → List ℕ → List ℕ
filled room bytes = take (length room) bytes ++ drop (length bytes) room

-- the room is filled with the bytes, and the size is theirs
abbrev pub Fills : List ℕ → List ℕ → ℕ → List ℕ → Type 0
Fills old new size bytes = (new ≡ filled old bytes) × (size ≡ length bytes)

-- some command by the limits of every command has the reply of this status over the rules, and the room is filled with it
abbrev pub RoomReplied : Status → List ℕ → List ℕ → List ℕ → ℕ → Type 0
RoomReplied status rules old new size =
    (command : Command) × (bytes : List ℕ) × IsCommandIn Plain command
    × IsReply (query_of command) rules (record { output = bytes; status = status }) × Fills old new size bytes
