use Rattle.std.proofs.Common.{rules}
use Rattle.program_replies.proofs.Describing.{tells_limit}
use Rattle.program_replies.proofs.asking.ask.Goals as goal

pub returns-in-Ok : goal.returns-in-Ok
returns-in-Ok g c = rw c.in-Ok.is c.ask_ground.ensures

pub returns-in_ok-refused-in-Err : goal.returns-in_ok-refused-in-Err
returns-in_ok-refused-in-Err g c =
    let reply = c.in_ok-refused-in-Err in
    tells_limit c.args.inquiry.now c.args.instantiated c.in-Err.fault reply.field-0 c.in-Err.is (search rules) reply.ensures.line reply.ensures.status
