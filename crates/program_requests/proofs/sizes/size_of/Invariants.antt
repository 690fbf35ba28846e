use Rattle.std.proofs.Common.{◌≡◌, ◌<◌, ◌^◌, drop}
use Rattle.program_requests.specs.Sizes.{are_digits, number_after}
use Rattle.program_requests.proofs.sizes.size_of.Given as goal

abbrev pub invariant-loop-byte : goal.invariant-loop-byte
invariant-loop-byte l =
    (are_digits (drop l.byte-index l.digits) ≡ are_digits l.digits)
    × (number_after l.size (drop l.byte-index l.digits) ≡ number_after 0 l.digits)
    × (l.size < 2 ^ 64)
