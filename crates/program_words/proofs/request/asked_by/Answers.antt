use Rattle.statement.specs.declared.width.Width.TheVariants.{Plain}
use Rattle.program_words.proofs.request.asked_by.Goals as goal

pub returns-in_ok-refused-in-Err : goal.returns-in_ok-refused-in-Err
returns-in_ok-refused-in-Err c = c.in_ok-refused-in-Err.ensures.any Plain
