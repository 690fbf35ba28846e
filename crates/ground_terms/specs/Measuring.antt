-- This crate's own: what `run` promises does not rest on it.
-- How many bytes placed parts add to a text.
use Rattle.std.specs.Prelude.{ℕ, ◌+◌, List, length}
use Rattle.statement.specs.Tree.{Tree, text}
use Rattle.rules_clauses.specs.declared.numbered.Part.{Part}
use Rattle.rules_clauses.specs.declared.numbered.Part.TheVariants as parts
use Rattle.rules_clauses.specs.Numbers.{word_at}

-- the bytes of a part with the space before it; those of the terms in a list are not counted with it
abbrev pub bytes_of : List (List ℕ) → (ℕ → Tree) → Part → ℕ
bytes_of words value (parts.Variable p) = 1 + length (text (value p))
bytes_of words value (parts.Constant s) = 1 + length (word_at words s)
bytes_of words value (parts.List s n) = 3 + length (word_at words s)
