use Rattle.std.proofs.Common.{rules, sym, ◌∙◌}
use Rattle.std.specs.Prelude.{length}
use Rattle.gdlsolve_c.specs.Calls.{Fills}
use Rattle.gdlsolve_c.specs.Telling.{told_bytes}
use Rattle.gdlsolve_c.proofs.Statuses.{answer_told, refusal_told}
use Rattle.gdlsolve_c.proofs.call.gdlsolve_reply.Goals as goal

pub returns-clause-answered : goal.returns-clause-answered
returns-clause-answered c = λ e.
    let fills : Fills c.args.room.now c.fill.new.room (length c.bytes-bytes.result.now) (told_bytes c.in-Ok.told) = search rules in
    answer_told c.in-Ok.told c.args.rules.now _ _ _ c.in-Ok.ensures fills (sym c.status.ensures ∙ e)

pub returns-clause-refused : goal.returns-clause-refused
returns-clause-refused c = λ e.
    let fills : Fills c.args.room.now c.fill.new.room (length c.bytes-bytes.result.now) (told_bytes c.in-Ok.told) = search rules in
    refusal_told c.in-Ok.told c.args.rules.now _ _ _ c.in-Ok.ensures fills (sym c.status.ensures ∙ e)
