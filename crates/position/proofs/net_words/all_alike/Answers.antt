use Rattle.std.proofs.Common.{◌∙◌, sym, arith}
use Rattle.std.proofs.lemmas.Nat.Bits.{bit_at_ones, bit_at-zero}
use Rattle.position.proofs.net_words.all_alike.Goals as goal

pub returns-then-bit-eq1 : goal.returns-then-bit-eq1
returns-then-bit-eq1 c = λ k lt. bit_at_ones 64 k lt ∙ sym c.if-bit-eq1.true

pub returns-else-bit-eq1 : goal.returns-else-bit-eq1
returns-else-bit-eq1 c = λ k lt.
    let is_bit = c.requires in
    let other = c.if-bit-eq1.false in
    let none = bit_at-zero k in
    omega arith
