use Rattle.std.proofs.Common.{ℕ, ◌+◌, ◌<◌}
use Rattle.propnet_tape.specs.Grouping.{IsGivenInput}
use Rattle.propnet_tape.proofs.groups.are_given_from.Given as goal

-- the nodes before this one are given
abbrev pub invariant-loop-m : goal.invariant-loop-m
invariant-loop-m l = (i : ℕ) → i < l.m → IsGivenInput l.sources.words.items (l.from + i) (l.first + i)
