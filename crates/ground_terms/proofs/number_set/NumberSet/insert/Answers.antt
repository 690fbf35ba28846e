use Rattle.std.proofs.Common.{ℕ, List, [], ◌∷◌, ◌++◌, get_or, ap, ◌∙◌, sym, arith}
use Rattle.ground_terms.proofs.NumberSets.{set_noted}
use Rattle.ground_terms.proofs.number_set.NumberSet.insert.Goals as goal

pub invariant_of-self-2 : goal.invariant_of-self-2
invariant_of-self-2 c =
    set_noted c.self.inside.members.items c.push.new.self.items c.self.inside.tickets.items c.make_room.new.tickets.items c.args.number c.in_ok-next.next
    c.self.invariant
    (ap (λ (l : List ℕ). get_or l c.args.number 0) (sym c.deref.ensures.value) ∙ sym c.ticket.ensures
    ∙ (let t = c.if-ticket-gt0.false in omega (arith, t)))
    c.make_room.ensures.same c.in_ok-make_room.ensures.room
    (c.in_ok-push.ensures.items ∙ ap (λ (m : ℕ). c.self.inside.members.items ++ m ∷ []) c.in_ok-member.ensures)
    (let e = c.in_ok-next.ensures in let l = c.len.ensures ∙ c.self.inside.members.ok.0 in omega (arith, e, l))
