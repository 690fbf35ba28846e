-- The words that say why a list of items is refused.
use Rattle.std.specs.Prelude.{ℕ, List, ◌∷◌, ◌++◌, codes}
use Rattle.std.specs.Fmt.{decimal}
use Rattle.statement.specs.declared.rule_fault.RuleExcess.{RuleExcess as Excess}
use Rattle.statement.specs.declared.rule_fault.RuleExcess.TheVariants.{Rules, Variables, Alternatives, Roles}
use Rattle.statement.specs.declared.rule_fault.RuleFault.{RuleFault}
use Rattle.statement.specs.declared.rule_fault.RuleFault.TheVariants.{BadForm, BadKeyword, Unsafe, Recursive, BadDependence, NoRole, TooMany, NoMemory}

abbrev pub rule_excess_words : Excess → List ℕ
rule_excess_words Rules = codes "rules"
rule_excess_words Variables = codes "variables"
rule_excess_words Alternatives = codes "alternatives"
rule_excess_words Roles = codes "roles"

-- a fault's number and name, and the number of the item that has it
abbrev pub rule_fault_words : RuleFault → List ℕ
rule_fault_words (BadForm n) = codes "G1 BadForm " ++ decimal n
rule_fault_words (BadKeyword n) = codes "G2 BadKeyword " ++ decimal n
rule_fault_words (Unsafe n) = codes "G3 Unsafe " ++ decimal n
rule_fault_words (Recursive n) = codes "G4 Recursive " ++ decimal n
rule_fault_words (BadDependence n) = codes "G5 BadDependence " ++ decimal n
rule_fault_words NoRole = codes "G6 NoRole"
rule_fault_words (TooMany n excess) = codes "G7 TooMany " ++ decimal n ++ 32 ∷ rule_excess_words excess
rule_fault_words NoMemory = codes "G9 NoMemory"
