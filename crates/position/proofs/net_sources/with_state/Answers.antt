use Rattle.std.proofs.Common.{ℕ, max, min, ap, ◌∙◌}
use Rattle.std.specs.Int.{bit_at}
use Rattle.std.specs.Int.Bits.{bit_and}
use Rattle.std.proofs.lemmas.Nat.Bits.{bit_at_or, bit_at_and}
use Rattle.position.proofs.net_sources.with_state.Goals as goal

pub returns : goal.returns
returns c = λ l below.
    bit_at_or c.args.lanes (bit_and c.all_alike.result c.args.own) l
    ∙ ap (λ (n : ℕ). max (bit_at c.args.lanes l) n)
    (bit_at_and c.all_alike.result c.args.own l ∙ ap (λ (n : ℕ). min n (bit_at c.args.own l)) (c.all_alike.ensures l below))
