use Rattle.std.proofs.Common.{rules, length, sym}
use Rattle.std.proofs.lemmas.List.{length-map}
use Rattle.kif.specs.View.{trees_in, tree_of}
use Rattle.rules.specs.RuleSets.{texts_of}
use Rattle.program_replies.proofs.Counting.{counts}
use Rattle.program_replies.proofs.reading.checked.Goals as goal

pub returns-in_ok-counted-in-Ok : goal.returns-in_ok-counted-in-Ok
returns-in_ok-counted-in-Ok g c =
    let accepted = c.in-Ok.ensures.accepted in
    counts (trees_in c.args.items.now) c.in-Ok.counts.alternatives c.in-Ok.counts.relations (texts_of c.in-Ok.counts.roles.items)
    (length c.args.items.now) c.in_ok-counted-in-Ok.field-0.items c.answered.result.output.items c.answered.result.status
    (sym (length-map c.args.items.now tree_of)) accepted.0 accepted.1 accepted.2 accepted.3 c.in_ok-counted-in-Ok.ensures (search rules)
    c.answered.ensures.status
