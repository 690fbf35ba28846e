use Rattle.std.proofs.Common.{◌++◌, length, reverse}
use Rattle.statement.specs.Tree.{text}
use Rattle.rules.specs.RuleSetView.{lists_of_set}
use Rattle.ground_terms.specs.Keys.{term_at, trees}
use Rattle.ground_terms.specs.Writing.{pending_text}
use Rattle.ground_terms.proofs.Written.{Left}
use Rattle.ground_terms.proofs.arena.Arena.write_term.Given as goal

abbrev pub invariant-loop-next : goal.invariant-loop-next
invariant-loop-next l =
    Left (length l.self.keys) (trees (lists_of_set l.rules).words l.self.keys)
    (l.fn.out.items ++ text (term_at (trees (lists_of_set l.rules).words l.self.keys) l.number)) l.out.items l.pending.items

abbrev pub decreases-loop-next : goal.decreases-loop-next
decreases-loop-next l = length (pending_text (trees (lists_of_set l.rules).words l.self.keys) (reverse l.pending.items))
