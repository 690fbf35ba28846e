use Rattle.std.proofs.Common.{◌+◌, ℕ, List, drop, get_or, refl, subst}
use Rattle.rules.specs.RuleSetView.{lists_of_set, rules_in}
use Rattle.ground_terms.specs.Keys.{trees}
use Rattle.ground_terms.proofs.Facts.{number_next, at_end}
use Rattle.ground_matching.proofs.Facts.{below_at}
use Rattle.ground.proofs.KindSteps.{Kinding, kinding_next, kinding_ends}
use Rattle.ground.proofs.kinds_of_atoms.kinds_of_atoms.Goals as goal

pub kind_of-kind-requires-clause-number : goal.kind_of-kind-requires-clause-number
kind_of-kind-requires-clause-number c = below_at _ c.args.atoms.now c.loop-place.place c.requires.within c.loop-place-test.true

pub loop-place-preserved : goal.loop-place-preserved
loop-place-preserved c =
    kinding_next (rules_in c.args.rules.now) (trees (lists_of_set c.args.rules.now).words c.args.arena.now.keys) c.args.fixed_atoms c.args.atoms.now
    c.loop-place.kinds.items _ c.loop-place.place
    (get_or c.args.atoms.now c.loop-place.place 0) (drop (c.loop-place.place + 1) c.args.atoms.now) c.kind_of-kind.result
    (subst (λ (l : List ℕ). Kinding (rules_in c.args.rules.now) (trees (lists_of_set c.args.rules.now).words c.args.arena.now.keys) c.args.fixed_atoms
    c.args.atoms.now c.loop-place.kinds.items c.loop-place.place l)
    (number_next c.args.atoms.now c.args.atoms.now c.loop-place.place refl c.loop-place-test.true) c.loop-place.invariant)
    c.kind_of-kind.ensures c.in_ok-push.ensures.items

pub returns : goal.returns
returns c =
    kinding_ends (rules_in c.args.rules.now) (trees (lists_of_set c.args.rules.now).words c.args.arena.now.keys) c.args.fixed_atoms c.args.atoms.now
    c.loop-place.kinds.items c.loop-place.place
    (subst (λ (l : List ℕ). Kinding (rules_in c.args.rules.now) (trees (lists_of_set c.args.rules.now).words c.args.arena.now.keys) c.args.fixed_atoms
    c.args.atoms.now c.loop-place.kinds.items c.loop-place.place l)
    (at_end c.args.atoms.now c.args.atoms.now c.loop-place.place refl c.loop-place-test.false) c.loop-place.invariant)
