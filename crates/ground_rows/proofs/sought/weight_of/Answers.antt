use Rattle.std.proofs.Common.{ℕ, ◌+◌, ◌*◌, ◌%◌, ◌^◌, sym, ap, ◌∙◌}
use Rattle.util_interner.specs.KeyTables.{key_hash}
use Rattle.ground_rows.proofs.Facts.{weighs, full, factor}
use Rattle.ground_rows.proofs.sought.weight_of.Goals as goal

pub returns : goal.returns
returns c = λ at key v more long e.
    let is = c.wrapping_pow.ensures ∙ ap (λ (b : ℕ). b ^ c.in_ok-power.power % full) c.mix.ensures
    ∙ ap (λ (n : ℕ). factor ^ n % full) c.in_ok-power.ensures in
    weighs at c.args.many c.requires key v more long e ∙ ap (λ (w : ℕ). (key_hash 0 key + more * w) % full) (sym is)
