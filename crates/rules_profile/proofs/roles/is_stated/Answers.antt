use Rattle.std.proofs.Common.{Bool, ◌||◌, ◌<◌, ◌+◌, length, drop, sym, ap, ◌∙◌}
use Rattle.std.proofs.lemmas.List.Elements.{All-get_or}
use Rattle.kif.specs.View.{tree_of, trees_in}
use Rattle.statement.specs.Profile.{is_tree_in}
use Rattle.rules_profile.specs.Stated.{roles_at}
use Rattle.rules_profile.proofs.RoleLists.{stated_from}
use Rattle.rules_profile.proofs.roles.is_stated.Goals as goal

pub returns-then-states : goal.returns-then-states
returns-then-states g c =
    let role = tree_of c.args.role.now in
    let within = All-get_or (λ k. k < length c.args.items.now) c.args.places.now c.loop-place.place-index 0 c.loop-place-test.true c.requires in
    let from = stated_from role c.args.items.now c.args.places.now c.loop-place.place-index c.index-items-place.result c.loop-place-test.true within
    c.index-items-place.is in
    sym (c.loop-place.invariant ∙ from
    ∙ ap (λ (v : Bool). v || is_tree_in role (roles_at (trees_in c.args.items.now) (drop (c.loop-place.place-index + 1) c.args.places.now)))
    (sym c.if-states.ensures))

pub loop-place-preserved : goal.loop-place-preserved
loop-place-preserved g c =
    let role = tree_of c.args.role.now in
    let within = All-get_or (λ k. k < length c.args.items.now) c.args.places.now c.loop-place.place-index 0 c.loop-place-test.true c.requires in
    let from = stated_from role c.args.items.now c.args.places.now c.loop-place.place-index c.index-items-place.result c.loop-place-test.true within
    c.index-items-place.is in
    c.loop-place.invariant ∙ from
    ∙ ap (λ (v : Bool). v || is_tree_in role (roles_at (trees_in c.args.items.now) (drop (c.loop-place.place-index + 1) c.args.places.now)))
    (sym c.if-states.ensures)
