use Rattle.propnet.proofs.SlotLemmas.{ticket_next}
use Rattle.propnet.proofs.slot.Slot.some.Goals as goal

pub returns : goal.returns
returns c = ticket_next c.args.number
