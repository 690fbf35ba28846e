use Rattle.std.proofs.Common.{◌≡◌, take}
use Rattle.util_interner.specs.KeyTables.{NamesKept}
use Rattle.util_interner.proofs.name_table.names_over.Given as goal

abbrev pub invariant-loop-number : goal.invariant-loop-number
invariant-loop-number l = record {
  tabled : NamesKept (take l.number l.names) l.table;
  many : l.table.buckets ≡ l.many;
}
