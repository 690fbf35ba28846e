use Rattle.std.proofs.Common.{◌≡◌, drop}
use Rattle.util_interner.specs.KeyTables.{key_hash}
use Rattle.util_interner.proofs.key_table.hash_of.Given as goal

abbrev pub invariant-loop-number : goal.invariant-loop-number
invariant-loop-number l = key_hash l.hash (drop l.number-index l.key) ≡ key_hash 0 l.key
