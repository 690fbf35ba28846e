use Rattle.program_searches.specs.Replies.{reply_of}
use Rattle.program_unroll.specs.Unrolled.{IsUnrollReply}
use Rattle.program_unroll.proofs.Parting.{broken_run, told_run}
use Rattle.program_unroll.proofs.command.run_unroll.Goals as goal

pub returns-in-Ok-clause-run : goal.returns-in-Ok-clause-run
returns-in-Ok-clause-run g c =
    let read = c.in-Ok.ensures.reply in
    told_run (IsUnrollReply c.args.bounds) c.in-Ok.told.bytes.items (reply_of c.in-Ok.told.reply) c.write_told.result _ _ _ _ _ _ read.0 read.1 c.write_told.ensures.told

pub returns-in-Err-clause-run : goal.returns-in-Err-clause-run
returns-in-Err-clause-run g c =
    broken_run (IsUnrollReply c.args.bounds) c.in-Err.fault c.status_of.result _ _ _ _ _ c.in-Err.ensures.fault c.status_of.ensures.status c.status_of.ensures.told
