use Rattle.std.proofs.Common.{sym, ◌∙◌}
use Rattle.rules_clauses.proofs.AddingLemmas.{variable_part, constant_part}
use Rattle.rules_clauses.proofs.store.Store.name_part.Goals as goal

pub returns-in_ok-variable : goal.returns-in_ok-variable
returns-in_ok-variable c =
    variable_part c.args.from _ _ _ _ _ _ c.requires c.in_ok-symbol.ensures.kept c.in_ok-variable.ensures.kept c.in_ok-symbol.ensures.found
    c.in_ok-variable.ensures.found
    (sym c.is_variable_name.ensures ∙ c.if-is_variable_name.true)

pub returns-else-is_variable_name : goal.returns-else-is_variable_name
returns-else-is_variable_name c =
    constant_part c.args.from _ _ _ _ c.in_ok-symbol.ensures.kept c.in_ok-symbol.ensures.found (sym c.is_variable_name.ensures
    ∙ c.if-is_variable_name.false)
