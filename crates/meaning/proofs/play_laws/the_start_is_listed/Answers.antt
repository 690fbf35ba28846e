use Rattle.meaning.proofs.Context.{start_exact, start_listed}
use Rattle.meaning.proofs.play_laws.the_start_is_listed.Goals as goal

pub returns : goal.returns
returns c = record { starts = start_exact; list = start_listed }
