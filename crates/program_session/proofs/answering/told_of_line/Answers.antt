use Rattle.program_words.specs.declared.request.Request.TheVariants.{Misuse}
use Rattle.program_session.proofs.Requests.{told_some}
use Rattle.program_session.proofs.answering.told_of_line.Goals as goal

pub returns-in_default-clause-told : goal.returns-in_default-clause-told
returns-in_default-clause-told g c = told_some c.args.width (Misuse c.in_ok-format.field-0) c.args.rules.now c.told_of.result tt c.told_of.ensures.told

pub returns-clause-told : goal.returns-clause-told
returns-clause-told g c = told_some c.args.width c.in_ok-request.request c.args.rules.now c.told_of-2.result c.in_ok-request.ensures c.told_of-2.ensures.told

pub returns-then-eq-clause-told : goal.returns-then-eq-clause-told
returns-then-eq-clause-told g c = told_some c.args.width (Misuse c.in_ok-format-2.field-0) c.args.rules.now c.told_of-then-eq.result tt c.told_of-then-eq.ensures.told
