use Rattle.std.proofs.Common.{◌≡◌, drop}
use Rattle.kif.specs.View.{tree_of, trees_in}
use Rattle.statement.specs.Profile.{is_tree_in}
use Rattle.rules_profile.specs.Stated.{roles_at}
use Rattle.rules_profile.proofs.roles.is_stated.Given as goal

abbrev pub invariant-loop-place : goal.invariant-loop-place
invariant-loop-place g l =
    is_tree_in (tree_of l.role) (roles_at (trees_in l.items) l.places) ≡ is_tree_in (tree_of l.role)
    (roles_at (trees_in l.items) (drop l.place-index l.places))
