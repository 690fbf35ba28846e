use Rattle.std.proofs.Common.{ℕ, List, subst, sym}
use Rattle.rules.specs.RuleSetView.{lists_of_set}
use Rattle.ground_matching.specs.Plans.{HaveRelations}
use Rattle.ground_matching.proofs.Facts.{build_at}
use Rattle.ground_matching.proofs.placed.plan_of.Goals as goal

pub marks_of-requires : goal.marks_of-requires
marks_of-requires c =
    let d = lists_of_set c.args.set.now in
    subst (λ (ns : List ℕ). HaveRelations d ns) (sym c.deref-4.ensures.value)
    (λ i h. let b = build_at d c.args.alternative.now.variables.from c.args.places.now c.args.alternative.now.body.items i c.requires.each h in
    (b.0, b.1.inside.relation))
