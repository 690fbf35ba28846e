use Rattle.std.proofs.Common.{arith}
use Rattle.rules_profile.proofs.Facts.{part_smaller}
use Rattle.diagnose_explain.proofs.variables.+gathering.Goals as goal

pub gather_all-gather-requires : goal.gather_all-gather-requires
gather_all-gather-requires g t c κs within =
    let k = part_smaller _ _ _ c.loop-part-test.true c.part-item.is in
    (omega (arith, k, c.decreases), within)
