use Rattle.board.proofs.Nested.{inner_serve}
use Rattle.board.proofs.law.inner_answers_serve.Goals as goal

pub returns : goal.returns
returns c = inner_serve
