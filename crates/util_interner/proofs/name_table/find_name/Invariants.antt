use Rattle.util_interner.specs.KeyTables.{byte_bits}
use Rattle.util_interner.proofs.TableLemmas.{Finding}
use Rattle.util_interner.proofs.name_table.find_name.Given as goal

abbrev pub invariant-loop-step : goal.invariant-loop-step
invariant-loop-step l = Finding byte_bits l.names l.name l.table.slots.items l.table.buckets l.step l.slot
