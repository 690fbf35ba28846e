-- This crate's own: what `run` promises does not rest on it.
-- The lists of a store.
use Rattle.rules_clauses.specs.declared.store.Store.{Store}
use Rattle.rules_clauses.specs.Store.{Data}

abbrev pub data_of : Store → Data
data_of s = record { words = s.symbols; signatures = s.signatures; variables = s.variables.items; parts = s.parts.items; literals = s.literals.items }
