use Rattle.std.proofs.Common.{ℕ, ◌∷◌, [], ◌++◌, List, take, ap, sym, ◌∙◌, arith}
use Rattle.util_interner.specs.KeyTables.{number_bits}
use Rattle.util_interner.proofs.TableLemmas.{tabled_more, front_more, front_many}
use Rattle.util_interner.proofs.key_table.table_over.Goals as goal

pub loop-number-preserved : goal.loop-number-preserved
loop-number-preserved c =
    let n = c.loop-number.number in
    let keys = c.args.keys.now in
    let h = c.loop-number-test.true in
    let k = c.loop-number.auto.number-end in
    let e = c.len-number-end.ensures in
    record {
      tabled = tabled_more number_bits c.loop-number.table.buckets _ n c.end_of_walk-slot.result (take n keys) _ c.get-key.result.now
          c.loop-number.table.slots.items _ c.loop-number.invariant.tabled c.end_of_walk-slot.ensures
          (front_more keys n (omega (arith, h, k, e)) ∙ ap (λ (key : List ℕ). take n keys ++ key ∷ []) (sym c.get-key.ensures))
          (sym (front_many keys n (omega (arith, h, k, e)))) c.in_ok-stand_in.ensures.buckets c.in_ok-stand_in.ensures.slots;
      many = c.in_ok-stand_in.ensures.buckets ∙ c.loop-number.invariant.many;
    }
