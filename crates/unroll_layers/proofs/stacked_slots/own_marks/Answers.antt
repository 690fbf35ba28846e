use Rattle.std.proofs.Common.{map}
use Rattle.rules_relations.specs.Relations.{relation_in}
use Rattle.rules.specs.RuleSetView.{rules_in}
use Rattle.unroll_layers.proofs.Marked.{tops_marked}
use Rattle.unroll_layers.proofs.stacked_slots.own_marks.Goals as goal

pub returns : goal.returns
returns c =
    tops_marked (rules_in c.args.rules.now) (map relation_in c.args.own.now) _ c.in_ok-marks.marks.items c.in_ok-marks.ensures c.in_ok-set.ensures
