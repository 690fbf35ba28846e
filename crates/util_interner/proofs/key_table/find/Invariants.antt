use Rattle.util_interner.specs.KeyTables.{number_bits}
use Rattle.util_interner.proofs.TableLemmas.{Finding}
use Rattle.util_interner.proofs.key_table.find.Given as goal

abbrev pub invariant-loop-step : goal.invariant-loop-step
invariant-loop-step l = Finding number_bits l.keys l.key l.table.slots.items l.table.buckets l.step l.slot
