use Rattle.diagnose_places.proofs.Journeys.{begins_here}
use Rattle.diagnose_places.proofs.walk.Walk.start.Goals as goal

pub returns : goal.returns
returns g c = λ reads. begins_here c.args.items.now c.args.self.now _ c.in_ok-first.first c.requires c.in_ok-first.ensures.next reads
