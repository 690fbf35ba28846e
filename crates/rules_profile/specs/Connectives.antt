-- This crate's own: what `run` promises does not rest on it.
-- The words that make a literal of other literals.
use Rattle.std.specs.Prelude.{ℕ, List, false, ◌≡◌}
use Rattle.statement.specs.Tree.{name_eq}
use Rattle.statement.specs.Words.{w_or, w_and, w_not}
use Rattle.rules_profile.specs.declared.forms.Connective.{Connective}
use Rattle.rules_profile.specs.declared.forms.Connective.TheVariants as words

pub record IsNoConnective (word : List ℕ) : Type 0 where
  pub no_or : name_eq word w_or ≡ false
  pub no_and : name_eq word w_and ≡ false
  pub no_not : name_eq word w_not ≡ false

abbrev pub IsConnectiveOf : List ℕ → Connective → Type 0
IsConnectiveOf word words.Or = word ≡ w_or
IsConnectiveOf word words.And = word ≡ w_and
IsConnectiveOf word words.Not = word ≡ w_not
IsConnectiveOf word words.Nothing = IsNoConnective word
