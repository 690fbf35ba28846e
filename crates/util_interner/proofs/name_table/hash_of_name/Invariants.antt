use Rattle.std.proofs.Common.{◌≡◌, drop}
use Rattle.util_interner.specs.KeyTables.{key_hash}
use Rattle.util_interner.proofs.name_table.hash_of_name.Given as goal

abbrev pub invariant-loop-byte : goal.invariant-loop-byte
invariant-loop-byte l = key_hash l.hash (drop l.byte-index l.name) ≡ key_hash 0 l.name
