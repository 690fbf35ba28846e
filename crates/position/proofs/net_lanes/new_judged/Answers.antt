use Rattle.std.proofs.Common.{refl}
use Rattle.position.proofs.net_lanes.new_judged.Goals as goal

pub returns-in-Some : goal.returns-in-Some
returns-in-Some c = rw c.in-Some.is c.new_net_many.ensures

pub returns-in-None : goal.returns-in-None
returns-in-None c = rw c.in-None.is refl
