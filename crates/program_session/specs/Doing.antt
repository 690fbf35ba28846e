-- This crate's own: what `run` promises does not rest on it.
-- What becomes of a request.
use Rattle.std.specs.Prelude.{ℕ, ◌≡◌, Option, None, Some, string_bytes}
use Rattle.std.specs.Io.KnownBytes.{Keeps}
use Rattle.statement.specs.Output.{AppendsFront}
use Rattle.program_words.specs.declared.command.Command.{Command}
use Rattle.program_words.specs.declared.command.Language.{Language}
use Rattle.program_words.specs.declared.command.Language.TheVariants.{Profile, Whole, Tightened}
use Rattle.program_words.specs.declared.request.Request.{Request}
use Rattle.program_words.specs.declared.request.Request.TheVariants.{Run, Lint, Unroll, Serve, Help, Misuse}
use Rattle.program_streams.specs.Streams.{Streams}
use Rattle.program_run.specs.Commands.{HasShown}
use Rattle.program_run.specs.Explained.{IsRunExplained}
use Rattle.program_run.specs.Linted.{IsLintRun}
use Rattle.unroll_writer.specs.declared.written.Bounds.{Bounds}
use Rattle.unroll_writer.specs.declared.written.Bounds.TheVariants as bounds
use Rattle.program_unroll.specs.Unrolled.{IsUnrollRun}
use Rattle.program_session.specs.Found.{IsFoundRun}
use Rattle.program_session.specs.Serving.{IsServed}

-- what is written of `base` and `input` for rules in a language, where they are written out before a command is run
abbrev pub found_bounds : Language → Option Bounds
found_bounds Profile = None
found_bounds Whole = Some bounds.AsStated
found_bounds Tightened = Some bounds.Tightened

-- what `unroll` writes of them
abbrev pub bounds_for : Language → Bounds
bounds_for Profile = bounds.AsStated
bounds_for Whole = bounds.AsStated
bounds_for Tightened = bounds.Tightened

-- a command was run: over the rules as they stand, or over what is written for them
abbrev pub IsRunBy : Option Bounds → Command → ℕ → Streams → Streams → Type 0
IsRunBy None command = IsRunExplained command
IsRunBy (Some ranges) command = IsFoundRun ranges command

-- The command was run over rules in its language; the findings in the rules were written; a description was written out; a session was held;
-- a text was shown, and nothing was read; or it was told to the errors, of which they may have taken a beginning alone, and nothing was read
-- or written.
abbrev pub IsPerformed : Request → ℕ → Streams → Streams → Type 0
IsPerformed (Run command language) status old new = IsRunBy (found_bounds language) command status old new
IsPerformed Lint status old new = IsLintRun status old new
IsPerformed (Unroll language) status old new = IsUnrollRun (bounds_for language) status old new
IsPerformed (Serve language) status old new = IsServed language status old new
IsPerformed (Help text) status old new = Keeps old.input new.input × HasShown (string_bytes text) status old new
IsPerformed (Misuse text) status old new =
    (status ≡ 1) × Keeps old.input new.input × Keeps old.output new.output × AppendsFront old.errors new.errors (string_bytes text)
