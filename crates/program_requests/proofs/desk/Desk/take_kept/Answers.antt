use Rattle.std.proofs.Common.{◌∙◌}
use Rattle.program_requests.proofs.DeskLemmas.{rules_taken}
use Rattle.program_requests.proofs.desk.Desk.take_kept.Goals as goal

pub returns-clause-taken : goal.returns-clause-taken
returns-clause-taken g c =
    rules_taken c.in_ok-take_text.field-0 c.args.size c.take_text.new.text c.into_bytes.result.items _ _ c.if-not-branch.false
    c.in_ok-take_text.ensures.taken (c.in_ok-take_text.ensures.size ∙ c.requires.room) c.into_bytes.ensures
