use Rattle.std.proofs.Common.{ℕ, ◌≡◌, ◌/◌, length, take, drop, subst, arith}
use Rattle.ground_rows.proofs.Facts.{twice_the_first}
use Rattle.ground_rows.proofs.steps.are_twice.Goals as goal

pub returns : goal.returns
returns c = λ t.
    let ps = c.args.parts.now in
    let half = length ps / 2 in
    let long = c.if-half-parts.false in
    let end = c.loop-index-test.false in
    let within = c.loop-index.auto.index-end in
    let same : c.loop-index.index ≡ half = omega (arith, end, within) in
    (take half ps, twice_the_first ps half (omega (arith, long)) (subst (λ (k : ℕ). take k (drop half ps) ≡ take k ps) same c.loop-index.invariant))
