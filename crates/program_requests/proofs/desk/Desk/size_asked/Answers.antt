use Rattle.program_requests.proofs.DeskLemmas.{line_asks}
use Rattle.program_requests.proofs.desk.Desk.size_asked.Goals as goal

pub returns : goal.returns
returns c = λ line front.
    line_asks c.args.self.now.line line c.bytes.result.now c.rules_size.result c.requires.room front (c.is_long.ensures.no c.if-is_long.false)
    c.bytes.ensures c.rules_size.ensures
