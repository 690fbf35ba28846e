-- This crate's own: what `run` promises does not rest on it.
-- A search that is asked for, and the reply after it.
use Rattle.std.specs.Prelude.{ℕ, ◌<◌, List, Result, Ok, Err}
use Rattle.statement.specs.NamedRules.{NamedRules}
use Rattle.statement.specs.Answers.{Reply, answer}
use Rattle.statement.specs.declared.at_bound.AtBound.{AtBound}
use Rattle.statement.specs.Rules.{State}
use Rattle.game.specs.declared.game.Game.{Ghosts}
use Rattle.program_searches.specs.declared.reply.Reply as made
use Rattle.program_searches.specs.declared.search.Search.{Search}
use Rattle.program_searches.specs.declared.search.Start.{Start}
use Rattle.program_searches.specs.Histories.{named}
use Rattle.program_searches.specs.Replies.{reply_of}

-- which game it is
abbrev pub named_by : {G P W M : Type 0} → Ghosts G P W M → G → NamedRules
named_by of game = named (of.rules game) (of.role_name game) (of.move_name game)

-- what is told of a state of a game for a role, by how many turns are looked ahead and what a state is worth behind them
abbrev pub LinesOf : Type 0
LinesOf = NamedRules → ℕ → ℕ → AtBound → State → List ℕ

-- A search of a state that was made for its game, for one of the game's roles. What tells such lines of it is the reply.
pub record IsSearchFor {G P W M : Type 0} (of : Ghosts G P W M) (lines : LinesOf) (is : Reply → Type 0) (s : Search G P W M) : Type 0 where
  pub fits : of.fits s.game s.here
  pub role : s.asked.role < (of.rules s.game).roles
  pub reply : is (answer (lines (named_by of s.game) s.asked.role s.asked.depth s.asked.at (of.state s.game s.here)))

-- the search after which there is the reply, or the reply
abbrev pub IsSearchOrReply : {G P W M : Type 0} → Ghosts G P W M → LinesOf → (Reply → Type 0) → Result (Search G P W M) made.Reply → Type 0
IsSearchOrReply of lines is (Ok s) = IsSearchFor of lines is s
IsSearchOrReply of lines is (Err reply) = is (reply_of reply)

-- where a search of a game begins, for one of the game's roles; what tells such lines of it is the reply
pub record IsStartFor {G P W M : Type 0} (of : Ghosts G P W M) (game : G) (lines : LinesOf) (is : Reply → Type 0) (s : Start G P W M) : Type 0 where
  pub fits : of.fits game s.here
  pub role : s.asked.role < (of.rules game).roles
  pub reply : is (answer (lines (named_by of game) s.asked.role s.asked.depth s.asked.at (of.state game s.here)))

-- where the search begins after which there is the reply, or the reply
abbrev pub IsStartOrReply : {G P W M : Type 0} → Ghosts G P W M → G → LinesOf → (Reply → Type 0) → Result (Start G P W M) made.Reply → Type 0
IsStartOrReply of game lines is (Ok s) = IsStartFor of game lines is s
IsStartOrReply of game lines is (Err reply) = is (reply_of reply)
