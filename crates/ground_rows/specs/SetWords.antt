-- This crate's own: what `run` promises does not rest on it.
-- Names and alternatives of a rule set.
use Rattle.std.specs.Prelude.{ℕ, List}
use Rattle.rules.specs.declared.rule_set.RuleSet.{RuleSet}
use Rattle.rules_clauses.specs.declared.numbered.Alternative as memory
use Rattle.statement.specs.Clause.{Alternative, Relation}
use Rattle.rules.specs.Drafts.{numbered, alternative_of}
use Rattle.rules.specs.RuleSetView.{lists_of_set}
use Rattle.rules_clauses.specs.Store.{relation_at}

abbrev pub words_of : RuleSet → List (List ℕ)
words_of set = (lists_of_set set).words

-- what an alternative in memory stands for
abbrev pub rule_of : RuleSet → memory.Alternative → Alternative
rule_of set a = alternative_of (lists_of_set set) (numbered a)

abbrev pub relation_of_set : RuleSet → ℕ → Relation
relation_of_set set r = relation_at (lists_of_set set) r
