-- This crate's own: what `run` promises does not rest on it.
-- The streams of the program.
use Rattle.std.specs.Prelude.{ℕ, List, Option}

-- the three streams of the program: what is left of the input, and what the output and the errors hold, each where it is known
pub record Streams : Type 0 where
  pub input : Option (List ℕ)
  pub output : Option (List ℕ)
  pub errors : Option (List ℕ)

abbrev pub streams : Option (List ℕ) → Option (List ℕ) → Option (List ℕ) → Streams
streams input output errors = record { input = input; output = output; errors = errors }
