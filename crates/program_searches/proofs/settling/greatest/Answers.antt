use Rattle.std.proofs.Common.{ap}
use Rattle.statement.specs.declared.at_bound.AtBound.TheVariants.{Unfinished}
use Rattle.statement.specs.declared.at_bound.Worth.{Worth}
use Rattle.program_searches.proofs.SameWorth.{is_greatest}
use Rattle.program_searches.proofs.settling.greatest.Goals as goal

pub returns-in-Some : goal.returns-in-Some
returns-in-Some c = ap (λ (w : Worth). Unfinished w) (is_greatest c.in-Some.worth c.in-Some.ensures.some)
