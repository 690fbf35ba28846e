-- What bounds of a value say in a window.
use Rattle.std.proofs.Common.{◌≡◌, ℕ, ◌≤◌, arith}
use Rattle.std.proofs.lemmas.Int.{ints, clamps}
use Rattle.std.specs.Prelude.{ℤ, pos, ◌<ℤ◌, ◌≤ℤ◌}
use Rattle.std.specs.Int.{int_min, int_max}
use Rattle.game.specs.Value.{Answers}
use Rattle.search_table.specs.declared.bounds.Bounds.{Bounds}
use Rattle.search_table.specs.Worths.{IsWithin}
use Rattle.maximin.specs.Tools.{IsWindow}

-- where they leave nothing of it, the upper end of what they leave answers, or the lower bound where that is more
pub settled_answers : (v : ℕ) (known : Bounds) (a b low high r : ℤ) → IsWithin v known → a <ℤ b → low ≡ int_max a (pos known.lo)
    → high ≡ int_min b (pos known.hi) → high ≤ℤ low → r ≡ int_max high (pos known.lo) → Answers v a b r
settled_answers v known a b low high r within order l h closed e =
    let lower = within.0 in
    let upper = within.1 in
    record { at_least = omega (arith, ints, clamps); at_most = omega (arith, ints, clamps) }

-- what answers in the part that they leave answers in the window
pub narrow_answers : (v : ℕ) (known : Bounds) (a b low high r : ℤ) → IsWithin v known → low ≡ int_max a (pos known.lo)
    → high ≡ int_min b (pos known.hi) → Answers v low high r → Answers v a b r
narrow_answers v known a b low high r within l h is =
    let lower = within.0 in
    let upper = within.1 in
    let bottom = is.at_least in
    let top = is.at_most in
    record { at_least = omega (arith, ints, clamps); at_most = omega (arith, ints, clamps) }

-- and that part is a window
pub narrow_window : (known : Bounds) (a b low high : ℤ) → IsWindow a b → low ≡ int_max a (pos known.lo) → high ≡ int_min b (pos known.hi)
    → low <ℤ high → IsWindow low high
narrow_window known a b low high is l h less =
    let bottom = is.low in
    let top = is.high in
    record { low = omega (arith, ints, clamps); order = less; high = omega (arith, ints, clamps) }

-- a bound of one of the values, of which `all` is the least or the greatest
pub bound_low : (v all hi : ℕ) (b upper r : ℤ) → all ≤ v → v ≤ hi → r ≡ pos hi → int_min (pos all) b ≤ℤ upper → int_min (pos all) b ≤ℤ int_min upper r
bound_low v all hi b upper r part within is low = omega (arith, ints, clamps)

pub bound_high : (v all lo : ℕ) (a lower r : ℤ) → v ≤ all → lo ≤ v → r ≡ pos lo → lower ≤ℤ int_max (pos all) a → int_max lower r ≤ℤ int_max (pos all) a
bound_high v all lo a lower r part within is high = omega (arith, ints, clamps)

-- a bound of the least or the greatest, and then a narrower one
pub lower_yet : (all : ℕ) (b upper low : ℤ) → int_min (pos all) b ≤ℤ upper → int_min (pos all) upper ≤ℤ low → int_min (pos all) b ≤ℤ low
lower_yet all b upper low h k = omega (arith, ints, clamps)

pub higher_yet : (all : ℕ) (a lower high : ℤ) → lower ≤ℤ int_max (pos all) a → high ≤ℤ int_max (pos all) lower → high ≤ℤ int_max (pos all) a
higher_yet all a lower high h k = omega (arith, ints, clamps)
