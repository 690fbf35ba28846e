use Rattle.std.proofs.Common.{suc, ◌≡◌, ◌-◌, arith}
use Rattle.ground_instances.proofs.RunLemmas.{none_is, some_is}
use Rattle.ground_instances.proofs.runs.alternative_at.Goals as goal

pub returns-then-begun-eq0 : goal.returns-then-begun-eq0
returns-then-begun-eq0 c = λ low high rise.
    none_is c.args.runs.now c.args.place c.count_runs-begun.result c.if-begun-eq0.true (c.count_runs-begun.ensures.others low high rise)

pub returns : goal.returns
returns c = λ low high rise.
    let begun = c.count_runs-begun.result in
    let some = c.if-begun-eq0.false in
    let next : begun ≡ suc (begun - 1) = omega (arith, some) in
    some_is c.args.runs.now c.args.place begun (begun - 1) _ next c.count_runs-begun.ensures.within
    (c.count_runs-begun.ensures.begun low high rise) (c.count_runs-begun.ensures.others low high rise)
