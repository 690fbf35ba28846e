use Rattle.std.proofs.Common.{ℕ, List, ◌++◌, ◌<◌, sym, ap, subst, ◌∙◌}
use Rattle.rules_profile.specs.Names.{names_behind, Gathers}
use Rattle.statement.specs.Safety.{is_name_in, count_different}
use Rattle.statement.specs.RuleLimits.{most_variables}
use Rattle.rules_profile.proofs.NameSets.{gathers_none, gathers_old, gathers_new, too_many, variables_of_name, variables_of_constant, length-names_behind}
use Rattle.rules_profile.proofs.NameSets.{names_behind-last}
use Rattle.rules_profile.proofs.variables.gather_name.Goals as goal

pub returns-then-not-is_variable_name-clause-all : goal.returns-then-not-is_variable_name-clause-all
returns-then-not-is_variable_name-clause-all c =
    let old = names_behind c.args.seen.now.items in
    subst (Gathers old old) (sym (variables_of_constant c.args.word.now c.if-not-is_variable_name.ensures)) (gathers_none old c.requires.different)

pub returns-then-is_among-clause-all : goal.returns-then-is_among-clause-all
returns-then-is_among-clause-all c =
    let old = names_behind c.args.seen.now.items in
    subst (Gathers old old) (sym (variables_of_name c.args.word.now c.if-not-is_variable_name.ensures))
    (gathers_old c.args.word.now old c.requires.different (c.if-is_among.ensures
    ∙ ap (λ rs. is_name_in c.args.word.now (names_behind rs)) c.deref.ensures.0))

pub returns-in-Ok-clause-all : goal.returns-in-Ok-clause-all
returns-in-Ok-clause-all c =
    let old = names_behind c.args.seen.now.items in
    let new = names_behind c.try_push.new.self.items in
    let absent = c.if-is_among.ensures ∙ ap (λ rs. is_name_in c.args.word.now (names_behind rs)) c.deref.ensures.0 in
    subst (Gathers old new) (sym (variables_of_name c.args.word.now c.if-not-is_variable_name.ensures))
    (gathers_new c.args.word.now old new c.requires.different absent (ap names_behind c.in-Ok.ensures.ok ∙ names_behind-last c.args.seen.now.items _))

pub returns-in-Err-clause-many : goal.returns-in-Err-clause-many
returns-in-Err-clause-many c =
    let old = names_behind c.args.seen.now.items in
    let absent = c.if-is_among.ensures ∙ ap (λ rs. is_name_in c.args.word.now (names_behind rs)) c.deref.ensures.0 in
    let P : List (List ℕ) → Type 0 = λ vs. most_variables < count_different (vs ++ old) in
    subst P (sym (variables_of_name c.args.word.now c.if-not-is_variable_name.ensures))
    (too_many c.args.word.now old c.requires.different absent (length-names_behind c.args.seen.now.items ∙ c.in-Err.ensures.full))
