use Rattle.util_interner.specs.KeyTables.{byte_bits, turn_of, bucket_of}
use Rattle.util_interner.proofs.TableLemmas.{Walking}
use Rattle.util_interner.proofs.name_table.end_of_walk.Given as goal

abbrev pub invariant-loop-step : goal.invariant-loop-step
invariant-loop-step l = Walking l.table.slots.items l.table.buckets (turn_of byte_bits l.name) (bucket_of l.name l.table.buckets) l.wanted l.step l.slot
