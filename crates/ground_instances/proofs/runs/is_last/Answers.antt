use Rattle.std.proofs.Common.{suc, ◌≡◌, ◌-◌, length, arith}
use Rattle.std.proofs.lemmas.Bool.{eqb-true}
use Rattle.ground_instances.proofs.RunLemmas.{last_is}
use Rattle.ground_instances.proofs.runs.is_last.Goals as goal

pub returns-then-many-gt0 : goal.returns-then-many-gt0
returns-then-many-gt0 c = λ same.
    let rs = c.args.runs.now in
    let some = c.if-many-gt0.true in
    let next : length rs ≡ suc (length rs - 1) = omega (arith, some) in
    last_is rs (length rs - 1) c.args.alternative next (eqb-true _ _ same)
