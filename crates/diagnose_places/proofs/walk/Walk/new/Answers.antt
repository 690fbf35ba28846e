use Rattle.std.proofs.Common.{refl}
use Rattle.diagnose_places.proofs.Journeys.{new_walk}
use Rattle.diagnose_places.proofs.walk.Walk.new.Goals as goal

pub returns-clause-walk : goal.returns-clause-walk
returns-clause-walk c = λ ts. new_walk ts _ refl c.new-here.ensures.text refl c.new-here.ensures.all
