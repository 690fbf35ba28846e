-- This crate's own: what `run` promises does not rest on it.
-- What is kept of the rules that stand.
use Rattle.std.specs.Prelude.{ℕ, List, Option, None, Some, IfSome, ⊤}
use Rattle.statement.specs.declared.width.Width.{Width}
use Rattle.statement.specs.declared.width.Width.TheVariants.{Plain, Wide}
use Rattle.ground_instances.specs.declared.flat_ground.FlatGround.{FlatGround}
use Rattle.game.specs.declared.game.Game.{Ghosts}
use Rattle.program_replies.specs.Playing.{PlaysText}
use Rattle.program_searches.specs.Kept.{IsKeptSearch}
use Rattle.program_words.specs.declared.command.Language.{Language}
use Rattle.program_words.specs.declared.command.Language.TheVariants.{Profile, Whole, Tightened}
use Rattle.program_searches.specs.declared.reply.Reply.{Reply}
use Rattle.program_searches.specs.Replies.{reply_of}
use Rattle.unroll_writer.specs.declared.written.Bounds.{Bounds}
use Rattle.unroll_writer.specs.declared.written.Bounds.TheVariants as bounds
use Rattle.program_unroll.specs.Unrolled.{IsUnrollReply}
use Rattle.program_requests.specs.declared.desk.Taken.{Taken}
use Rattle.program_session.specs.declared.game_kept.KeptGame.{KeptGame}
use Rattle.program_requests.specs.declared.desk.Taken.TheVariants.{Line, Rules as Stated, Starved, LastLine, Cut, Nothing}

-- the game plays the rules with these bytes, which pass no limit of a width, and the memory of a search, if there is one, is of the game
abbrev pub IsKeptGame : {G P W M : Type 0} → Ghosts G P W M → (G → FlatGround) → Width → List ℕ → KeptGame G P W M → Type 0
IsKeptGame of source width bytes kept =
    PlaysText width bytes (source kept.game) (of.rules kept.game) (of.role_name kept.game) (of.move_name kept.game)
    × IfSome kept.search (IsKeptSearch of kept.game)

-- nothing is kept of rules as they are found, or what is told of them, and a game, if there is one, plays the text that is written
abbrev pub AreKeptFound : {X : Type 0} → (Width → List ℕ → X → Type 0) → Bounds → List ℕ → Option Reply → Option X → Type 0
AreKeptFound Plays ranges rules None made = ⊤
AreKeptFound Plays ranges rules (Some reply) made = IsUnrollReply ranges rules (reply_of reply) × IfSome made (Plays Wide reply.output.items)

-- what is kept of rules in a language: a game that plays them, or what is kept of them as they are found, which may have more inputs
abbrev pub AreKept : {X : Type 0} → (Width → List ℕ → X → Type 0) → Language → List ℕ → Option Reply → Option X → Type 0
AreKept Plays Profile rules written made = IfSome made (Plays Plain rules)
AreKept Plays Whole rules written made = AreKeptFound Plays bounds.AsStated rules written made
AreKept Plays Tightened rules written made = AreKeptFound Plays bounds.Tightened rules written made

-- what is kept after this was taken: nothing, where other rules may stand
abbrev pub kept_after : {X : Type 0} → Taken → Option X → Option X
kept_after Line made = made
kept_after Stated made = None
kept_after Starved made = None
kept_after LastLine made = made
kept_after Cut made = None
kept_after Nothing made = None
