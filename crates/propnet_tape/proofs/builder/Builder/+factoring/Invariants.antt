use Rattle.std.proofs.Common.{length, ◌+◌, ◌*◌}
use Rattle.propnet_tape.specs.Terms.{keyed_in}
use Rattle.propnet_tape.proofs.Factors.{IsWorking}
use Rattle.propnet_tape.proofs.builder.Builder.+factoring.Given as goal

abbrev pub decreases-any_of_terms : goal.decreases-any_of_terms
decreases-any_of_terms l = 2 * l.depth

abbrev pub decreases-any_in_group : goal.decreases-any_in_group
decreases-any_in_group l = 2 * l.depth + 1

abbrev pub invariant-any_of_terms-groups : goal.invariant-any_of_terms-groups
invariant-any_of_terms-groups l = IsWorking keyed_in l.base l.mark l.fn.self l.self l.fn.terms l.terms

abbrev pub decreases-any_of_terms-groups : goal.decreases-any_of_terms-groups
decreases-any_of_terms-groups l = length l.terms.parts.items
