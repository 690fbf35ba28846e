-- This crate's own: what `run` promises does not rest on it.
-- Variables that nothing binds.
use Rattle.std.specs.Prelude.{ℕ, ◌≡◌, true, false, List}
use Rattle.statement.specs.Tree.{Tree}
use Rattle.statement.specs.Safety.{variables, is_name_in}
use Rattle.rules_relations.specs.Asking.{binds_it}

-- the variable stands in the item, and no positive literal of its body, other than a `distinct`, has it
pub record IsUnbound (t : Tree) (v : List ℕ) : Type 0 where
  pub stands : is_name_in v (variables t) ≡ true
  pub unbound : binds_it v t ≡ false
