use Rattle.std.proofs.Common.{◌<◌, [], length, get_or, arith}
use Rattle.statement.specs.Kept.{Kept}
use Rattle.rules.specs.RuleSetView.{rules_in}
use Rattle.ground_instances.specs.GroundView.{instances_of}
use Rattle.ground_instances.proofs.Facts.{among_at}
use Rattle.unroll_layers.proofs.Carried.{carried_added}
use Rattle.unroll_layers.proofs.carrying.mark_carried.Goals as goal

pub returns : goal.returns
returns c =
    let rows = instances_of c.args.ground.now in
    let d : Kept = record { alternative = 0; head = 0; body = [] } in
    let marks = c.args.marks.now.items in
    let inside : c.in-Some.atom < length marks = omega (arith, c.len.ensures, c.if-atom-len.false) in
    carried_added (rules_in c.args.rules.now) c.args.firsts.now rows c.args.owners.now marks c.in-Some.atom c.requires.marks inside
    (get_or rows c.args.place d, among_at rows c.args.place d c.requires.place, c.in-Some.ensures d)
