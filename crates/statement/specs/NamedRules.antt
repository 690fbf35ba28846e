-- A game, with the texts of its roles and moves.
use Rattle.std.specs.Prelude.{ℕ, List}
use Rattle.statement.specs.Rules.{Rules}

pub record NamedRules : Type 0 where
  pub rules : Rules
  pub role_name : ℕ → List ℕ
  pub move_name : ℕ → ℕ → List ℕ
