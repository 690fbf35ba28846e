use Rattle.std.proofs.Common.{◌≡◌, ◌++◌, map}
use Rattle.rules_clauses.specs.Spread.{lists_of}
use Rattle.rules.specs.Drafts.{shared, numbered_with}
use Rattle.rules.proofs.draft.add_alternatives.Given as goal

abbrev pub invariant-loop-body : goal.invariant-loop-body
invariant-loop-body l = map shared l.out.items ≡ map shared l.fn.out.items ++ numbered_with l.variables l.head (lists_of l.yielded)
