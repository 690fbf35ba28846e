use Rattle.board.proofs.Nested.{older_serve}
use Rattle.board.proofs.law.older_windows_serve.Goals as goal

pub returns : goal.returns
returns c = older_serve
