-- This crate's own: what `run` promises does not rest on it.
-- What asking comes to: a reply, or a search after which there is one.
use Rattle.statement.specs.Answers.{Reply}
use Rattle.statement.specs.Solving.{solve_lines}
use Rattle.statement.specs.Deepening.{deepen_lines}
use Rattle.game.specs.declared.game.Game.{Ghosts}
use Rattle.program_replies.specs.declared.asking.Asked.{Asked}
use Rattle.program_replies.specs.declared.asking.Asked.TheVariants.{Told, ToSearch, ToDeepen}
use Rattle.program_searches.specs.Searching.{IsSearchFor}
use Rattle.program_searches.specs.Replies.{reply_of}

-- a reply, or a search after which there is one: what tells its value, its first best move and its line, at once or turn by turn further
abbrev pub IsAsked : {G P W M : Type 0} → Ghosts G P W M → (Reply → Type 0) → Asked G P W M → Type 0
IsAsked of is (Told reply) = is (reply_of reply)
IsAsked of is (ToSearch s) = IsSearchFor of solve_lines is s
IsAsked of is (ToDeepen s) = IsSearchFor of deepen_lines is s
