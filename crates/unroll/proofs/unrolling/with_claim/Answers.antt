use Rattle.std.proofs.Common.{rules, ◌≤◌, length}
use Rattle.statement.specs.Reading.{text_limit}
use Rattle.unroll.proofs.Claims.{claimed}
use Rattle.unroll.proofs.FirstLines.{reads_behind}
use Rattle.unroll.proofs.unrolling.with_claim.Goals as goal

pub returns-clause-reads : goal.returns-clause-reads
returns-clause-reads c = λ written reads.
    reads_behind c.args.is_shown c.in_ok-out.out.items _ c.args.text.now written c.first_line.ensures c.in_ok-out.ensures.joined (search rules) reads

pub returns-clause-said : goal.returns-clause-said
returns-clause-said c =
    claimed c.args.is_shown c.in_ok-out.out.items c.args.text.now _ c.first_line.ensures c.in_ok-out.ensures.joined
