-- This crate's own: what `run` promises does not rest on it.
-- Names that were given numbers.
use Rattle.std.specs.Prelude.{ℕ, List}
use Rattle.rules.specs.declared.rule_set.Keywords.{Keywords}
use Rattle.rules_clauses.specs.Adding.{Extends, DataGrows}
use Rattle.rules.specs.RuleSets.{IsNameNumber, AreKeywords}
use Rattle.rules_clauses.specs.Store.{Data}

-- the name has the number, whatever comes behind the names
pub record NumbersName (old new : Data) (number : ℕ) (word : List ℕ) : Type 0 where
  pub grows : DataGrows 0 old new
  pub named : (later : Data) → Extends new later → IsNameNumber later.words number word

-- the same of the names that have a meaning in play
pub record NumbersKeywords (old new : Data) (k : Keywords) : Type 0 where
  pub grows : DataGrows 0 old new
  pub named : (later : Data) → Extends new later → AreKeywords later.words k
