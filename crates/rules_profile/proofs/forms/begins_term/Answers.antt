use Rattle.rules_profile.proofs.FormTests.{begins}
use Rattle.std.proofs.Common.{◌∙◌, sym}
use Rattle.rules_profile.proofs.forms.begins_term.Goals as goal

pub returns-then-not-is_empty : goal.returns-then-not-is_empty
returns-then-not-is_empty g c = c.is_lawful_constant.ensures ∙ sym (begins c.args.word.now c.args.rest.now c.if-not-is_empty.ensures)
