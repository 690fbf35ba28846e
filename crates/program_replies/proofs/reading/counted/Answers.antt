use Rattle.std.proofs.Common.{refl, ◌∙◌, ◌++◌, ap}
use Rattle.rules.specs.RuleSets.{texts_of}
use Rattle.statement.specs.Checking.{spaced}
use Rattle.program_replies.proofs.Counting.{lines_are}
use Rattle.program_replies.proofs.reading.counted.Goals as goal

pub returns : goal.returns
returns c =
    lines_are c.args.items _ _ _ _
    c.new-output.result.items c.add_count.new.output.items c.add_count-2.new.output.items c.add_count-3.new.output.items
    c.extend_from_slice.new.self.items c.add_roles.new.output.items c.push.new.self.items (texts_of c.args.counts.now.roles.items)
    c.new-output.ensures.items c.in_ok-add_count.ensures c.in_ok-add_count-2.ensures refl c.in_ok-add_count-3.ensures refl
    c.in_ok-extend_from_slice.ensures.items
    (c.in_ok-add_roles.ensures ∙ ap (λ vs. c.extend_from_slice.new.self.items ++ spaced (texts_of vs)) c.deref.ensures.value)
    c.in_ok-push.ensures.items
