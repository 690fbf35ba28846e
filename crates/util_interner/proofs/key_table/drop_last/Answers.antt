use Rattle.std.proofs.Common.{ℕ, ◌+◌, ◌-◌, List, ap, subst}
use Rattle.util_interner.specs.KeyTables.{number_bits, turn_of, bucket_of, EndsAt}
use Rattle.util_interner.proofs.TableLemmas.{tabled_less}
use Rattle.util_interner.proofs.key_table.drop_last.Goals as goal

pub returns-clause-kept : goal.returns-clause-kept
returns-clause-kept c =
    let old = c.args.table.now.slots.items in
    let buckets = c.args.table.now.buckets in
    let number = c.len-number.result - 1 in
    tabled_less number_bits buckets _ number c.end_of_walk-slot.result c.args.keys.now _ old _ c.requires.kept c.requires.some
    (ap (λ (n : ℕ). n - 1) c.len-number.ensures)
    (subst (λ (key : List ℕ). EndsAt old buckets (turn_of number_bits key) (bucket_of key buckets) (number + 1) c.end_of_walk-slot.result)
    c.get-key.ensures c.end_of_walk-slot.ensures)
    c.truncate.ensures c.free.ensures.buckets c.free.ensures.slots
