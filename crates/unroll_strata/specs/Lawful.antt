-- This crate's own: what `run` promises does not rest on it.
-- Items that are lawful in the whole language, why others are refused, and items that are accepted.
use Rattle.std.specs.Prelude.{ℕ, ◌≡◌, ◌⊎◌, ⊤, List, [], Some, All, map}
use Rattle.statement.specs.Tree.{Tree, text}
use Rattle.statement.specs.Profile.{HasNoFault, roles, item_fault_in, recursive}
use Rattle.statement.specs.TextFaults.{IsTextFault}
use Rattle.statement.specs.RuleFaults.{IsRuleFault}
use Rattle.statement.specs.declared.rule_fault.RuleFault.{RuleFault}
use Rattle.statement.specs.declared.rule_fault.RuleFault.TheVariants as rules
use Rattle.rules.specs.ItemLinks.{IsNumberOfFirst}
use Rattle.unroll_strata.specs.Resting.{RestsOnItsNegation}
use Rattle.unroll_strata.specs.Missing.{AsksUnstated}
use Rattle.unroll_strata.specs.declared.fault.UnrollFault.{UnrollFault}
use Rattle.unroll_strata.specs.declared.fault.UnrollFault.TheVariants as errors

-- no item rests on itself through a negated atom
abbrev pub AreStratified : List Tree → Type 0
AreStratified items = All (λ t. ¬ RestsOnItsNegation items t) items

-- some item rests on itself, and that is the first fault that the profile has for the items
abbrev pub IsRecursive : List Tree → Type 0
IsRecursive items = (n : ℕ) × (item_fault_in items ≡ Some (recursive n))

-- the items have no fault but recursion, and are stratified
pub record IsLawful (items : List Tree) : Type 0 where
  pub faults : HasNoFault items ⊎ IsRecursive items
  pub stratified : AreStratified items

-- the fault that the profile has for items; of items that rest on themselves, whether a body rests on what the head may not rest on, and
-- whether a role is stated, is looked at all the same
abbrev pub IsItemsFault : List Tree → RuleFault → Type 0
IsItemsFault items (rules.BadForm n) = IsRuleFault items (rules.BadForm n)
IsItemsFault items (rules.BadKeyword n) = IsRuleFault items (rules.BadKeyword n)
IsItemsFault items (rules.TooMany n excess) = IsRuleFault items (rules.TooMany n excess)
IsItemsFault items (rules.Unsafe n) = IsRuleFault items (rules.Unsafe n)
IsItemsFault items (rules.Recursive n) = ⊥
IsItemsFault items (rules.BadDependence n) = IsRuleFault items (rules.BadDependence n) ⊎ IsRecursive items
IsItemsFault items rules.NoRole = IsRuleFault items rules.NoRole ⊎ (roles items ≡ [])
IsItemsFault items rules.NoMemory = ⊥

-- why items are not written out
abbrev pub IsRefusal : List Tree → UnrollFault → Type 0
IsRefusal items (errors.Text fault) = ⊥
IsRefusal items (errors.Rules fault) = IsItemsFault items fault
IsRefusal items (errors.NotStratified n) = IsNumberOfFirst (RestsOnItsNegation items) items n
IsRefusal items (errors.TooMany excess) = ⊤
IsRefusal items (errors.Unstated n) = IsNumberOfFirst (AsksUnstated items) items n
IsRefusal items errors.NoMemory = ⊤

-- why a text stands for no items
abbrev pub IsUnread : List ℕ → UnrollFault → Type 0
IsUnread text (errors.Text fault) = IsTextFault text fault
IsUnread text (errors.Rules fault) = ⊥
IsUnread text (errors.NotStratified n) = ⊥
IsUnread text (errors.TooMany excess) = ⊥
IsUnread text (errors.Unstated n) = ⊥
IsUnread text errors.NoMemory = ⊤

-- items without a fault whose roles have these texts, in this order
pub record IsAccepted (wanted : List (List ℕ)) (items : List Tree) : Type 0 where
  pub faultless : HasNoFault items
  pub roles : map text (roles items) ≡ wanted
