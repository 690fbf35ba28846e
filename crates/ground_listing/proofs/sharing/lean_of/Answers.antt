use Rattle.std.proofs.Common.{ℕ, ◌≡◌, List, Option, length, map, refl, sym, ap, ◌∙◌, subst}
use Rattle.std.proofs.lemmas.List.{length-map}
use Rattle.rules.specs.RuleSetView.{lists_of_set, rules_in}
use Rattle.ground_matching.specs.Placed.{placed_body}
use Rattle.ground_matching.specs.Plans.{CanBuildEach, HaveRelations, mark_of}
use Rattle.ground_terms.specs.Vectors.{items_of}
use Rattle.ground_matching.proofs.Facts.{build_at}
use Rattle.ground_rows.specs.Sharing.{AreCommon, failing}
use Rattle.ground_rows.specs.Sought.{AreSought}
use Rattle.ground_listing.proofs.SharedBodies.{each_failing}
use Rattle.ground_listing.proofs.sharing.lean_of.Goals as goal

pub are_common-requires-clause-relations : goal.are_common-requires-clause-relations
are_common-requires-clause-relations c =
    let d = lists_of_set c.args.set.now in
    subst (λ (ns : List ℕ). HaveRelations d ns) (sym c.deref.ensures.value)
    (λ i h. let b = build_at d c.args.alternative.now.variables.from c.args.join.now.places.items c.args.alternative.now.body.items i c.requires.each h in
    (b.0, b.1.inside.relation))

pub are_common-requires-clause-parts : goal.are_common-requires-clause-parts
are_common-requires-clause-parts c =
    sym (length-map c.args.plan.now.body.items _) ∙ ap length c.requires.body ∙ length-map c.args.alternative.now.body.items _
    ∙ sym (ap length c.deref.ensures.value)

pub failing_literals-requires : goal.failing_literals-requires
failing_literals-requires c =
    let d = lists_of_set c.args.set.now in
    subst (λ (ns : List ℕ). HaveRelations d ns) (sym c.deref-2.ensures.value)
    (λ i h. let b = build_at d c.args.alternative.now.variables.from c.args.join.now.places.items c.args.alternative.now.body.items i c.requires.each h in
    (b.0, b.1.inside.relation))

pub plan_of-requires-clause-each : goal.plan_of-requires-clause-each
plan_of-requires-clause-each c =
    let r = rules_in c.args.set.now in
    let d = lists_of_set c.args.set.now in
    let from = c.args.alternative.now.variables.from in
    let places = c.args.join.now.places.items in
    let body = c.args.alternative.now.body.items in
    let made = c.in_ok-failing_literals.field-0.items in
    let ms : made ≡ failing r d body = c.in_ok-failing_literals.ensures ∙ ap (λ (ns : List ℕ). failing r d ns) c.deref-2.ensures.value in
    subst (λ (ps : List (Option ℕ)). CanBuildEach d from ps made) (sym c.deref-3.ensures.value)
    (subst (λ (ns : List ℕ). CanBuildEach d from places ns) (sym ms) (each_failing r d from places body c.requires.each))

pub sought_atoms-requires-clause-relations : goal.sought_atoms-requires-clause-relations
sought_atoms-requires-clause-relations c =
    let r = rules_in c.args.set.now in
    let d = lists_of_set c.args.set.now in
    let from = c.args.alternative.now.variables.from in
    let places = c.args.join.now.places.items in
    let body = c.args.alternative.now.body.items in
    let made = c.in_ok-failing_literals.field-0.items in
    let ms : made ≡ failing r d body = c.in_ok-failing_literals.ensures ∙ ap (λ (ns : List ℕ). failing r d ns) c.deref-2.ensures.value in
    let each : CanBuildEach d from places made =
    subst (λ (ns : List ℕ). CanBuildEach d from places ns) (sym ms) (each_failing r d from places body c.requires.each) in
    λ i h. let b = build_at d from places made i each h in (b.0, b.1.inside.relation)

pub sought_atoms-requires-clause-parts : goal.sought_atoms-requires-clause-parts
sought_atoms-requires-clause-parts c =
    sym (length-map c.in_ok-own.own.body.items _) ∙ ap length c.in_ok-own.ensures.body ∙ length-map c.in_ok-failing_literals.field-0.items _

pub returns : goal.returns
returns c = λ yes.
    let r = rules_in c.args.set.now in
    let d = lists_of_set c.args.set.now in
    let from = c.args.alternative.now.variables.from in
    let places = c.args.join.now.places.items in
    let body = c.args.alternative.now.body.items in
    let made = c.in_ok-failing_literals.field-0.items in
    let ms : made ≡ failing r d body = c.in_ok-failing_literals.ensures ∙ ap (λ (ns : List ℕ). failing r d ns) c.deref-2.ensures.value in
    record {
      common = subst (λ (ns : List ℕ). AreCommon r d from places ns) c.deref.ensures.value
          (c.are_common.ensures c.if-not-are_common.false from places
          (c.requires.body ∙ ap (λ (ns : List ℕ). placed_body d from places ns) (sym c.deref.ensures.value)));
      from = refl;
      numbers = ms;
      placed = c.in_ok-own.ensures.body ∙ ap (λ (ps : List (Option ℕ)). placed_body d from ps made) c.deref-3.ensures.value
          ∙ ap (λ (ns : List ℕ). placed_body d from places ns) ms;
      marks = c.in_ok-own.ensures.marks ∙ ap (λ (ns : List ℕ). map (mark_of r d) ns) ms;
      steps = c.in_ok-steps.ensures;
      sought = subst (λ (ns : List ℕ). AreSought d c.args.terms.now ns (items_of c.in_ok-own.own.body.items) c.in_ok-sought.sought.items) ms c.in_ok-sought.ensures;
    }
