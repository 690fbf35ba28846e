use Rattle.statement.specs.declared.width.Width.TheVariants.{Plain}
use Rattle.program_words.proofs.request.asked_by_words.Goals as goal

pub returns-in-Err : goal.returns-in-Err
returns-in-Err c = c.in_ok-told_by-in-Err.ensures.any Plain
