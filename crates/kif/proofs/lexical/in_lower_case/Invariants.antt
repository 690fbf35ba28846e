use Rattle.std.proofs.Common.{◌≡◌, map, take}
use Rattle.statement.specs.Lexical.{lower}
use Rattle.kif.proofs.lexical.in_lower_case.Given as goal

abbrev pub invariant-loop-byte : goal.invariant-loop-byte
invariant-loop-byte g l = l.name.items ≡ map lower (take l.byte-index l.bytes)
