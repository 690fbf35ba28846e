use Rattle.std.proofs.Common.{◌≡◌}
use Rattle.kif.specs.View.{trees_in}
use Rattle.rules_profile.proofs.Facts.{if_ok}
use Rattle.program_searches.specs.Replies.{reply_of}
use Rattle.program_run.specs.Linted.{IsLintReply, status_of_lines}
use Rattle.program_run.proofs.Findings.{linted_items}
use Rattle.program_run.proofs.reporting.reply_to_items.Goals as goal

pub returns-in-Ok : goal.returns-in-Ok
returns-in-Ok g c =
    if_ok c.found.result (λ reply. reply.status ≡ status_of_lines reply.output.items) (λ reply. IsLintReply c.args.bytes.now (reply_of reply))
    (λ reply told. linted_items c.args.bytes.now (trees_in c.args.items.now) (reply_of reply) c.requires c.in-Ok.ensures.accepted.0 told) c.found.ensures
