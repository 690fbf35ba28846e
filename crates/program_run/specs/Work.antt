-- This crate's own: what `run` promises does not rest on it.
-- What a command comes to, and the reply that is written then.
use Rattle.std.specs.Prelude.{⊤}
use Rattle.game.specs.declared.game.Game.{Ghosts}
use Rattle.statement.specs.Answers.{Reply, answer}
use Rattle.program_searches.specs.Replies.{reply_of}
use Rattle.program_searches.specs.Ready.{IsReady, lines_to_write}
use Rattle.program_run.specs.declared.working.Work.{Work}
use Rattle.program_run.specs.declared.working.Work.TheVariants.{Told, ToWrite}

abbrev pub reply_by : {G P W M : Type 0} → Ghosts G P W M → Work G P W M → Reply
reply_by of (Told reply) = reply_of reply
reply_by of (ToWrite d) = answer (lines_to_write of d)

-- there is a reply in memory, or all memory to write one
abbrev pub CanBeWritten : {G P W M : Type 0} → Ghosts G P W M → Work G P W M → Type 0
CanBeWritten of (Told reply) = ⊤
CanBeWritten of (ToWrite d) = IsReady of d

-- it can be written, and its reply is such a one
pub record IsWork {G P W M : Type 0} (of : Ghosts G P W M) (is : Reply → Type 0) (work : Work G P W M) : Type 0 where
  pub can : CanBeWritten of work
  pub reply : is (reply_by of work)
