-- This crate's own: what `run` promises does not rest on it.
-- A reply in memory.
use Rattle.program_searches.specs.declared.reply.Reply as made
use Rattle.statement.specs.Answers.{Reply}

-- its bytes and its status
abbrev pub reply_of : made.Reply → Reply
reply_of reply = record { output = reply.output.items; status = reply.status }
