use Rattle.util_interner.specs.KeyTables.{byte_bits}
use Rattle.util_interner.proofs.TableLemmas.{tabled_more}
use Rattle.util_interner.proofs.name_table.add_name.Goals as goal

pub returns-clause-kept : goal.returns-clause-kept
returns-clause-kept c =
    tabled_more byte_bits c.args.table.now.buckets _ _ _ c.args.names.now c.push.new.self c.args.name.now c.args.table.now.slots.items _
    c.requires.kept c.end_of_walk-slot.ensures c.in_ok-push.ensures.added c.len-number.ensures c.in-Ok.ensures.buckets c.in-Ok.ensures.slots
