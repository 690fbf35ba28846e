use Rattle.std.proofs.Common.{ℕ, List, get_or, nat_eq, ap, ◌∙◌, sym}
use Rattle.statement.specs.Printed.{first_place}
use Rattle.ground_terms.specs.NumberSets.{Members}
use Rattle.ground_terms.proofs.NumberSets.{place_past}
use Rattle.ground_terms.proofs.number_set.NumberSet.place.Goals as goal

pub returns-then-ticket-eq0 : goal.returns-then-ticket-eq0
returns-then-ticket-eq0 c =
    c.len.ensures ∙ c.self.inside.members.ok.0
    ∙ place_past c.self.inside.members.items c.self.inside.tickets.items c.args.number c.self.invariant.noted
    (ap (λ (l : List ℕ). get_or l c.args.number 0) (sym c.deref.ensures.value) ∙ sym c.ticket-ticket.ensures ∙ c.if-ticket-eq0.true)
    ∙ ap (λ (m : Members). first_place (nat_eq c.args.number) m.keys) c.self.view_is
