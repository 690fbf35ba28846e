-- What a check answers for a list of items.
use Rattle.std.specs.Prelude.{◌≡◌, not, List, [], Some, None}
use Rattle.statement.specs.Items.{is_item}
use Rattle.statement.specs.Tree.{Tree}
use Rattle.statement.specs.declared.rule_fault.RuleExcess.{RuleExcess as Excess}
use Rattle.statement.specs.declared.rule_fault.RuleFault.{RuleFault}
use Rattle.statement.specs.Profile.{Limit, rules_limit, variables_limit, alternatives_limit, roles_limit, bad_form, bad_keyword, too_many, not_safe, recursive, bad_dependence, no_role, first_failing, misuses_word, first_too_many, item_fault_in}
use Rattle.statement.specs.declared.rule_fault.RuleExcess.TheVariants as excesses
use Rattle.statement.specs.declared.rule_fault.RuleFault.TheVariants as errors

-- the limit that an error names
abbrev pub limit_of : Excess → Limit
limit_of excesses.Rules = rules_limit
limit_of excesses.Variables = variables_limit
limit_of excesses.Alternatives = alternatives_limit
limit_of excesses.Roles = roles_limit

-- the tests of forms, places and limits are passed, which take no memory
pub record PassesFirstTests (items : List Tree) : Type 0 where
  pub forms : first_failing bad_form (λ t. not (is_item t)) 1 items ≡ None
  pub words : first_failing bad_keyword misuses_word 1 items ≡ None
  pub limits : first_too_many 1 [] items ≡ None

-- the error is the fault of the items, or memory ran out behind the first tests
abbrev pub IsRuleFault : List Tree → RuleFault → Type 0
IsRuleFault items (errors.BadForm n) = item_fault_in items ≡ Some (bad_form n)
IsRuleFault items (errors.BadKeyword n) = item_fault_in items ≡ Some (bad_keyword n)
IsRuleFault items (errors.Unsafe n) = item_fault_in items ≡ Some (not_safe n)
IsRuleFault items (errors.Recursive n) = item_fault_in items ≡ Some (recursive n)
IsRuleFault items (errors.BadDependence n) = item_fault_in items ≡ Some (bad_dependence n)
IsRuleFault items errors.NoRole = item_fault_in items ≡ Some no_role
IsRuleFault items (errors.TooMany n excess) = item_fault_in items ≡ Some (too_many n (limit_of excess))
IsRuleFault items errors.NoMemory = PassesFirstTests items
