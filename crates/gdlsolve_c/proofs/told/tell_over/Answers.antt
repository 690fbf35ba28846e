use Rattle.gdlsolve_c.proofs.Requests.{is_told}
use Rattle.gdlsolve_c.proofs.told.tell_over.Goals as goal

pub returns-clause-told : goal.returns-clause-told
returns-clause-told c = is_told _ c.args.rules.now c.tell_of_kept.result c.in-Ok-request_in.ensures c.tell_of_kept.ensures.told
