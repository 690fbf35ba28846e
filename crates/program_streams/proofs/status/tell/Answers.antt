use Rattle.program_streams.proofs.FrontWritten.{front_written}
use Rattle.program_streams.proofs.status.tell.Goals as goal

pub returns : goal.returns
returns g c = front_written c.write_bytes.result _ _ _ c.write_bytes.ensures.whole c.write_bytes.ensures.front
