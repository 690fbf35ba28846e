use Rattle.std.proofs.Common.{rules}
use Rattle.program_replies.proofs.Measuring.{items_measured}
use Rattle.program_replies.proofs.sizes.reply_to_net.Goals as goal

pub returns : goal.returns
returns c = λ width items its.
    items_measured width items c.args.ground.now c.in-Ok.net c.in_ok-measured.field-0.items c.answered.result.output.items
    c.answered.result.status its c.in-Ok.ensures c.in_ok-measured.ensures (search rules) c.answered.ensures.status
