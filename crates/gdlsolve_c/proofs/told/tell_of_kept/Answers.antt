use Rattle.gdlsolve_c.proofs.told.tell_of_kept.Goals as goal

pub returns-in_ok-reply-in-Run-clause-told : goal.returns-in_ok-reply-in-Run-clause-told
returns-in_ok-reply-in-Run-clause-told c = rw c.in-Run.is c.in_ok-reply-in-Run.ensures.reply
