use Rattle.board.proofs.Nested.{inner_stay}
use Rattle.board.proofs.law.inner_bounds_stay.Goals as goal

pub returns : goal.returns
returns c = inner_stay
