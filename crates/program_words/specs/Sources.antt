-- This crate's own: what `run` promises does not rest on it.
-- The bytes that a source of rules has left.
use Rattle.std.specs.Prelude.{ℕ, List, Option}
use Rattle.program_words.specs.declared.source.Source.{Source}
use Rattle.program_words.specs.declared.source.Source.TheVariants.{Standard, Named}

-- what the one of both readers that it has tells of them
abbrev pub left_of : {R F : Type 0} → (R → Option (List ℕ)) → (F → Option (List ℕ)) → Source R F → Option (List ℕ)
left_of of_standard of_file (Standard input) = of_standard input
left_of of_standard of_file (Named file) = of_file file
