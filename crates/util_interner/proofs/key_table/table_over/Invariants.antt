use Rattle.std.proofs.Common.{◌≡◌, take}
use Rattle.util_interner.specs.KeyTables.{KeysKept}
use Rattle.util_interner.proofs.key_table.table_over.Given as goal

abbrev pub invariant-loop-number : goal.invariant-loop-number
invariant-loop-number l = record {
  tabled : KeysKept (take l.number l.keys) l.table;
  many : l.table.buckets ≡ l.many;
}
