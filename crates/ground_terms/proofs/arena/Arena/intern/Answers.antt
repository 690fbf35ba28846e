use Rattle.std.proofs.Common.{ℕ, List, ap, ◌∙◌}
use Rattle.ground_terms.specs.Arena.{key_length}
use Rattle.ground_terms.proofs.Lengths.{held_more, known_inside, key_inside, numbered_inside}
use Rattle.ground_terms.proofs.arena.Arena.intern.Goals as goal

pub returns-in-Some-clause-kept : goal.returns-in-Some-clause-kept
returns-in-Some-clause-kept c = known_inside _ _ _ _ _ c.in-Some.number c.self.view_is c.in-Some.ensures.0 c.in-Some.ensures.1

pub invariant_of-self-in-Ok-1 : goal.invariant_of-self-in-Ok-1
invariant_of-self-in-Ok-1 c =
    held_more _ _ _ _ _ _ _ c.self.invariant (key_inside _ _ _ _ _ c.self.invariant c.self.view_is c.requires) c.in_default.ensures
    (c.key_length-length.ensures.exact ∙ ap (λ (ls : List ℕ). key_length ls c.args.key.now) c.deref.ensures.value) c.key_length-length.ensures.cut
    c.in_ok-push.ensures.items c.in-Ok.ensures.kept

pub returns-clause-numbered : goal.returns-clause-numbered
returns-clause-numbered c =
    numbered_inside _ _ _ (held_more _ _ _ _ _ _ _ c.self.invariant (key_inside _ _ _ _ _ c.self.invariant c.self.view_is c.requires)
    c.in_default.ensures
    (c.key_length-length.ensures.exact ∙ ap (λ (ls : List ℕ). key_length ls c.args.key.now) c.deref.ensures.value) c.key_length-length.ensures.cut
    c.in_ok-push.ensures.items c.in-Ok.ensures.kept)
