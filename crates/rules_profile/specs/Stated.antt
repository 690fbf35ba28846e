-- This crate's own: what `run` promises does not rest on it.
-- The roles that items at given places state, and which limit an item passes.
use Rattle.std.specs.Prelude.{ℕ, suc, zero, All, ◌≡◌, ◌<◌, ◌≤◌, List, [], ◌∷◌, ◌++◌, length, nat_lt, cond, Some, None}
use Rattle.statement.specs.Tree.{Tree}
use Rattle.statement.specs.RuleLimits.{most_roles}
use Rattle.statement.specs.Profile.{roles_limit, too_many, first_too_many, limit_passed, role_in, with_new}
use Rattle.statement.specs.declared.rule_fault.RuleExcess.{RuleExcess as Excess}
use Rattle.statement.specs.declared.rule_fault.RuleFault.{RuleFault}
use Rattle.statement.specs.declared.rule_fault.RuleFault.TheVariants as errors
use Rattle.statement.specs.RuleFaults.{limit_of}

-- the role that the item at a place states, if there is such an item and it states one
abbrev pub role_stated : List Tree → ℕ → List Tree
role_stated [] k = []
role_stated (t ∷ ts) zero = role_in t
role_stated (t ∷ ts) (suc k) = role_stated ts k

abbrev pub roles_at : List Tree → List ℕ → List Tree
roles_at items [] = []
roles_at items (k ∷ ks) = role_stated items k ++ roles_at items ks

-- the first item that passes a limit, and which
abbrev pub IsSurplus : List Tree → RuleFault → Type 0
IsSurplus items (errors.TooMany n excess) = first_too_many 1 [] items ≡ Some (too_many n (limit_of excess))
IsSurplus items (errors.BadForm n) = ⊥
IsSurplus items (errors.BadKeyword n) = ⊥
IsSurplus items (errors.Unsafe n) = ⊥
IsSurplus items (errors.Recursive n) = ⊥
IsSurplus items (errors.BadDependence n) = ⊥
IsSurplus items errors.NoRole = ⊥
IsSurplus items errors.NoMemory = ⊥

-- item n passes this limit, whatever roles stand before it
abbrev pub HasExcess : ℕ → Tree → Excess → Type 0
HasExcess n t excess = (before : List Tree) → limit_passed n before t ≡ Some (limit_of excess)

-- item n passes no limit but that of roles, if it states one too many
abbrev pub HasRoleLimitAlone : ℕ → Tree → Type 0
HasRoleLimitAlone n t = (before : List Tree) → limit_passed n before t ≡ cond (nat_lt most_roles (length (with_new before (role_in t))))
    (Some roles_limit) None

-- at each of the places an item states a role
pub record AreRolePlaces (items : List Tree) (places : List ℕ) : Type 0 where
  pub within : All (λ k. k < length items) places
  pub each_one : length (roles_at items places) ≡ length places
  pub few : length places ≤ most_roles

-- the new places have the role of one item more, if it was not there
pub record AddsRole (items : List Tree) (old new : List ℕ) (place : ℕ) : Type 0 where
  pub roles : roles_at items new ≡ with_new (roles_at items old) (role_stated items place)
  pub places : AreRolePlaces items new
