use Rattle.std.proofs.Common.{◌∙◌, refl, ap}
use Rattle.kif.specs.View.{tree_of, trees_in}
use Rattle.statement.specs.Profile.{is_tree_in}
use Rattle.rules_profile.specs.Stated.{roles_at}
use Rattle.rules_profile.proofs.RoleLists.{role_stated-here, adds_none, adds_old, adds_new, adds_too_many, placed}
use Rattle.rules_profile.proofs.roles.add_role.Goals as goal

pub returns-in_default-clause-added : goal.returns-in_default-clause-added
returns-in_default-clause-added g c =
    let here = role_stated-here c.args.items.now c.args.place c.index-items-place.result c.requires.here c.index-items-place.is in
    adds_none (trees_in c.args.items.now) c.args.places.now.items c.args.place c.requires.places (here ∙ c.in_default.ensures)

pub returns-then-is_stated-clause-added : goal.returns-then-is_stated-clause-added
returns-then-is_stated-clause-added g c =
    let here = role_stated-here c.args.items.now c.args.place c.index-items-place.result c.requires.here c.index-items-place.is in
    adds_old (trees_in c.args.items.now) c.args.places.now.items c.args.place (tree_of c.in-Some.role.now) c.requires.places (here
    ∙ c.in-Some.ensures)
    (c.if-is_stated.ensures ∙ ap (λ ks. is_tree_in (tree_of c.in-Some.role.now) (roles_at (trees_in c.args.items.now) ks)) c.deref.ensures.0)

pub returns-in-Ok-clause-added : goal.returns-in-Ok-clause-added
returns-in-Ok-clause-added g c =
    let here = role_stated-here c.args.items.now c.args.place c.index-items-place.result c.requires.here c.index-items-place.is in
    adds_new (trees_in c.args.items.now) c.args.places.now.items c.try_push.new.self.items c.args.place (tree_of c.in-Some.role.now) c.requires.places
    (placed c.args.items.now c.args.place c.requires.here) (here ∙ c.in-Some.ensures)
    (c.if-is_stated.ensures ∙ ap (λ ks. is_tree_in (tree_of c.in-Some.role.now) (roles_at (trees_in c.args.items.now) ks)) c.deref.ensures.0)
    c.in-Ok.ensures.ok (c.in-Ok.ensures.variant.0 refl)

pub returns-in-Err-clause-many : goal.returns-in-Err-clause-many
returns-in-Err-clause-many g c =
    let here = role_stated-here c.args.items.now c.args.place c.index-items-place.result c.requires.here c.index-items-place.is in
    adds_too_many (trees_in c.args.items.now) c.args.places.now.items c.args.place (tree_of c.in-Some.role.now) c.requires.places (here
    ∙ c.in-Some.ensures)
    (c.if-is_stated.ensures ∙ ap (λ ks. is_tree_in (tree_of c.in-Some.role.now) (roles_at (trees_in c.args.items.now) ks)) c.deref.ensures.0)
    c.in-Err.ensures.full
