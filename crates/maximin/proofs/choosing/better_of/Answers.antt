use Rattle.std.proofs.Common.{w16, rules as facts}
use Rattle.std.proofs.lemmas.Int.{to_z-of_z}
use mir.Val.{SFits, of_z, to_z}
use Rattle.std.specs.Prelude.{◌<ℤ◌, ◌≤ℤ◌}
use Rattle.maximin.proofs.Best.{best_raised, best_kept}
use Rattle.maximin.proofs.Windows.{lt_z_true, lt_z_false}
use Rattle.maximin.proofs.choosing.better_of.Goals as goal

pub returns-then-worth-best-clause-best : goal.returns-then-worth-best-clause-best
returns-then-worth-best-clause-best c own few answers is =
    let fits : SFits w16 c.args.best.worth = search facts in
    let same = to_z-of_z w16 c.args.worth c.ranges.worth in
    let more : c.args.best.worth <ℤ c.args.worth = rw (same, to_z-of_z w16 c.args.best.worth fits) at
    (lt_z_true (to_z w16 (of_z w16 c.args.best.worth)) (to_z w16 (of_z w16 c.args.worth)) c.if-worth-best.true) in
    rw same (best_raised own c.args.best.seen c.args.best.worth c.args.worth c.args.best.place few answers more is)

pub returns-clause-best : goal.returns-clause-best
returns-clause-best c own few answers is =
    let fits : SFits w16 c.args.best.worth = search facts in
    let same = to_z-of_z w16 c.args.worth c.ranges.worth in
    let less : c.args.worth ≤ℤ c.args.best.worth = rw (same, to_z-of_z w16 c.args.best.worth fits) at
    (lt_z_false (to_z w16 (of_z w16 c.args.best.worth)) (to_z w16 (of_z w16 c.args.worth)) c.if-worth-best.false) in
    rw (to_z-of_z w16 c.args.best.worth fits) (best_kept own c.args.best.seen c.args.best.worth c.args.worth c.args.best.place few answers less is)
