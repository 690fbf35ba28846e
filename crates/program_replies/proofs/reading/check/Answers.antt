use Rattle.std.proofs.Common.{rules}
use Rattle.statement.specs.Tree.{trees_of}
use Rattle.statement.specs.Reading.{Reads}
use Rattle.kif.specs.View.{trees_in}
use Rattle.program_replies.proofs.ReadAndAsked.{bytes_checked}
use Rattle.program_replies.proofs.reading.check.Goals as goal

pub returns-in-Ok : goal.returns-in-Ok
returns-in-Ok c =
    let read : Reads c.args.bytes.now (trees_of (trees_in c.deref.result.now)) = search rules in
    bytes_checked c.args.bytes.now (trees_in c.deref.result.now) c.checked.result read c.checked.ensures
