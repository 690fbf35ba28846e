-- This crate's own: what `run` promises does not rest on it.
-- What a rule set holds.
use Rattle.std.specs.Prelude.{ℕ, Bool, List, map}
use Rattle.rules_clauses.specs.declared.numbered.Alternative as memory
use Rattle.rules.specs.declared.rule_set.Keywords.{Keywords}
use Rattle.rules.specs.declared.rule_set.RuleSet.{RuleSet}
use Rattle.statement.specs.Clause as said
use Rattle.rules.specs.Drafts.{numbered}
use Rattle.rules.specs.RuleSets.{rules_of, texts_of}
use Rattle.rules_clauses.specs.Store.{Data}
use Rattle.rules_clauses.specs.StoreView.{data_of}

-- the lists in memory, the alternatives and the texts of the roles of a rule set
abbrev pub lists_of_set : RuleSet → Data
lists_of_set set = data_of set.store

abbrev pub rules_in : RuleSet → List said.Alternative
rules_in set = rules_of (data_of set.store) (map numbered set.alternatives.items)

abbrev pub roles_in : RuleSet → List (List ℕ)
roles_in set = texts_of set.roles.items

-- its alternatives in memory, and the numbers of the names that have a meaning in play
abbrev pub alternatives_in : RuleSet → List memory.Alternative
alternatives_in set = set.alternatives.items

abbrev pub keywords_in : RuleSet → Keywords
keywords_in set = set.keywords

-- for each relation whether it is fixed, and the relations that head an alternative, in order
abbrev pub fixed_in : RuleSet → List Bool
fixed_in set = set.fixed.items

abbrev pub order_in : RuleSet → List ℕ
order_in set = set.order.items
