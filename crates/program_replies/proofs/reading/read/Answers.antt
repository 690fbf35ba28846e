use Rattle.std.proofs.Common.{rules}
use Rattle.statement.specs.Tree.{trees_of}
use Rattle.statement.specs.Reading.{Reads}
use Rattle.kif.specs.View.{trees_in}
use Rattle.program_replies.proofs.ReadAndAsked.{bytes_read}
use Rattle.program_replies.proofs.reading.read.Goals as goal

pub returns-in-Ok : goal.returns-in-Ok
returns-in-Ok c =
    let read : Reads c.args.bytes.now (trees_of (trees_in c.deref.result.now)) = search rules in
    bytes_read c.args.bytes.now (trees_in c.deref.result.now) c.rules_of.result read c.rules_of.ensures
