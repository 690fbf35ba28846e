use Rattle.program_unroll.proofs.replying.unroll_reply.Goals as goal

pub returns-in-Err : goal.returns-in-Err
returns-in-Err g c = c.refused.ensures c.args.bounds
