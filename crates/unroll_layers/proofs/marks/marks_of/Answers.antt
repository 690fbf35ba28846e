use Rattle.std.proofs.Common.{ap, ◌<◌, length, arith}
use Rattle.rules_relations.specs.Relations.{relation_in}
use Rattle.rules.specs.RuleSetView.{lists_of_set, rules_in}
use Rattle.unroll_layers.proofs.Heads.{mark_more, all_marks, many_rules}
use Rattle.unroll_layers.proofs.marks.marks_of.Goals as goal

pub loop-place-preserved : goal.loop-place-preserved
loop-place-preserved c =
    let set = c.args.rules.now in
    let many = many_rules (lists_of_set set) set.alternatives.items in
    let inside : c.loop-place.place < length (rules_in set) = omega (arith, many, ap length c.alternatives-many.ensures, c.loop-place-test.true) in
    mark_more c.args.relations.now (rules_in set) c.loop-place.place c.loop-place.marks.items c.push.new.self.items (relation_in c.head_at.result)
    c.contains.result inside c.loop-place.invariant c.contains.ensures c.head_at.ensures c.in_ok-push.ensures.items

pub returns : goal.returns
returns c =
    let set = c.args.rules.now in
    let many = many_rules (lists_of_set set) set.alternatives.items in
    all_marks c.args.relations.now (rules_in set) c.loop-place.place c.loop-place.marks.items
    (omega (arith, many, ap length c.alternatives-many.ensures, c.loop-place-test.false, c.loop-place.auto.place-end)) c.loop-place.invariant
