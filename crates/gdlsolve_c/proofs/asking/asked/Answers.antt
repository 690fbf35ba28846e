use Rattle.std.proofs.Common.{rules, ℕ, List, sym, ◌∙◌, subst}
use Rattle.std.specs.Prelude.{length}
use Rattle.gdlsolve_c.specs.Calls.{Fills}
use Rattle.gdlsolve_c.specs.Telling.{told_bytes, IsOutcome}
use Rattle.gdlsolve_c.proofs.Statuses.{answer_told, refusal_told}
use Rattle.gdlsolve_c.proofs.asking.asked.Goals as goal

pub returns-clause-answered : goal.returns-clause-answered
returns-clause-answered g c = λ e.
    let fills : Fills c.args.room.now c.fill.new.room (length c.bytes-bytes.result.now) (told_bytes c.in-Ok.told) = search rules in
    let told : IsOutcome g.rules c.in-Ok.told = subst (λ (l : List ℕ). IsOutcome l c.in-Ok.told) (c.deref.ensures.value ∙ c.requires.0) c.in-Ok.ensures.told in
    answer_told c.in-Ok.told g.rules _ _ _ told fills (sym c.status.ensures ∙ e)

pub returns-clause-refused : goal.returns-clause-refused
returns-clause-refused g c = λ e.
    let fills : Fills c.args.room.now c.fill.new.room (length c.bytes-bytes.result.now) (told_bytes c.in-Ok.told) = search rules in
    let told : IsOutcome g.rules c.in-Ok.told = subst (λ (l : List ℕ). IsOutcome l c.in-Ok.told) (c.deref.ensures.value ∙ c.requires.0) c.in-Ok.ensures.told in
    refusal_told c.in-Ok.told g.rules _ _ _ told fills (sym c.status.ensures ∙ e)
