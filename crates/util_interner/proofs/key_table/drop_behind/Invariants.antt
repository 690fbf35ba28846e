use Rattle.std.proofs.Common.{◌≡◌, length, take}
use Rattle.util_interner.specs.KeyTables.{KeysKept}
use Rattle.util_interner.proofs.key_table.drop_behind.Given as goal

abbrev pub invariant-loop-keys : goal.invariant-loop-keys
invariant-loop-keys l = record {
  kept : KeysKept l.keys l.table;
  front : take l.many l.keys ≡ take l.many l.initial.keys;
}

abbrev pub decreases-loop-keys : goal.decreases-loop-keys
decreases-loop-keys l = length l.keys
