use Rattle.std.proofs.Common.{◌≡◌, ◌++◌, drop}
use Rattle.rules.specs.RuleSets.{texts_of}
use Rattle.statement.specs.Checking.{spaced}
use Rattle.program_replies.proofs.reading.add_roles.Given as goal

abbrev pub invariant-loop-role : goal.invariant-loop-role
invariant-loop-role l =
    l.output.items ++ spaced (texts_of (drop l.role-index l.roles)) ≡ l.fn.output.items ++ spaced (texts_of l.roles)
