use Rattle.std.proofs.Common.{sym, ◌∙◌, ap}
use Rattle.propnet.specs.Slots.{number_of_ticket}
use Rattle.propnet.proofs.SlotLemmas.{ticket_back}
use Rattle.propnet.proofs.slot.Slot.number.Goals as goal

pub returns-then-self-eq0 : goal.returns-then-self-eq0
returns-then-self-eq0 c = sym (ap number_of_ticket c.if-self-eq0.true) ∙ c.self.view_is

pub returns : goal.returns
returns c = ticket_back c.self.inside.ticket c.if-self-eq0.false ∙ c.self.view_is
