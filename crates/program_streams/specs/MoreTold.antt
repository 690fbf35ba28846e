-- This crate's own: what `run` promises does not rest on it.
-- What is told to the errors behind what was told before.
use Rattle.std.specs.Prelude.{ℕ, List, Option, ◌⊎◌}
use Rattle.std.specs.Io.KnownBytes.{Keeps}
use Rattle.statement.specs.Output.{AppendsFront}
use Rattle.program_streams.specs.Streams.{Streams, streams}

-- nothing more was told; or, where that may be, a beginning of some text
abbrev pub TellsMore : Type 0 → Option (List ℕ) → Option (List ℕ) → Type 0
TellsMore may before after = Keeps before after ⊎ (may × (text : List ℕ) × AppendsFront before after text)

-- the streams before more was told to the errors
abbrev pub before_more : Streams → Option (List ℕ) → Streams
before_more new told = streams new.input new.output told
