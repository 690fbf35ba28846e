-- In a window around all values the answer is the value.
use Rattle.std.proofs.Common.{◌≡◌, ℕ, ◌≤◌, arith}
use Rattle.std.proofs.lemmas.Int.{ints, clamps}
use Rattle.std.specs.Prelude.{ℤ, pos, negsuc}
use Rattle.game.specs.Value.{Answers}

pub exact_answer : (v : ℕ) (r : ℤ) → v ≤ 100 → Answers v (negsuc 0) (pos 101) r → r ≡ pos v
exact_answer v r few h =
    let bottom = h.at_least in
    let top = h.at_most in
    omega (arith, ints, clamps)
