use Rattle.std.proofs.Common.{◌≡◌, ◌++◌, []}
use Rattle.std.specs.Prelude.{if◌then◌else◌}
use Rattle.std.specs.List.{flat_map, range_with_len}
use Rattle.game.specs.Keys.{has_bit}
use Rattle.ground_instances.specs.GroundView.{base_of}
use Rattle.program_replies.specs.Standing.{numbered_line}
use Rattle.program_replies.proofs.standing.add_holding.Given as goal

-- the lines of what holds among the propositions before this one stand
abbrev pub invariant-loop-proposition : goal.invariant-loop-proposition
invariant-loop-proposition l =
    l.output.items ≡ l.fn.output.items ++ flat_map (λ n. if has_bit l.key n then numbered_line (base_of l.ground) n else [])
    (range_with_len 0 l.proposition)
