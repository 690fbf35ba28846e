use Rattle.program_session.proofs.found_rules.told_of_found.Goals as goal

pub returns-clause-told : goal.returns-clause-told
returns-clause-told g c = c.told_of_written-told.ensures.told c.args.bounds c.args.rules.now c.in_ok-reply.ensures.reply.0
