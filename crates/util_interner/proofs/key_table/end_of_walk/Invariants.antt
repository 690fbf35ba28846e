use Rattle.util_interner.specs.KeyTables.{number_bits, turn_of, bucket_of}
use Rattle.util_interner.proofs.TableLemmas.{Walking}
use Rattle.util_interner.proofs.key_table.end_of_walk.Given as goal

abbrev pub invariant-loop-step : goal.invariant-loop-step
invariant-loop-step l = Walking l.table.slots.items l.table.buckets (turn_of number_bits l.key) (bucket_of l.key l.table.buckets) l.wanted l.step l.slot
