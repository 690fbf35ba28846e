use Rattle.gdlsolve_c.proofs.Requests.{is_told}
use Rattle.gdlsolve_c.proofs.told.tell.Goals as goal

pub returns : goal.returns
returns c = is_told _ c.args.rules.now c.tell_of.result c.in-Ok-request_in.ensures c.tell_of.ensures
