use Rattle.std.proofs.Common.{◌≡◌, ◌++◌, map, take}
use Rattle.statement.specs.Lexical.{lower}
use Rattle.kif.proofs.lines.add_lower.Given as goal

abbrev pub invariant-loop-byte : goal.invariant-loop-byte
invariant-loop-byte l = l.output.items ≡ l.initial.output.items ++ map lower (take l.byte-index l.bytes)
