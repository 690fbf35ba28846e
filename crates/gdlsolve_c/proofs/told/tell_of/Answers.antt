use Rattle.gdlsolve_c.proofs.told.tell_of.Goals as goal

pub returns-in_ok-reply-in-Run : goal.returns-in_ok-reply-in-Run
returns-in_ok-reply-in-Run c = rw c.in-Run.is c.in_ok-reply-in-Run.ensures
