use Rattle.std.proofs.Common.{◌≡◌, map, take}
use Rattle.statement.specs.Tree.{text}
use Rattle.kif.specs.View.{trees_in}
use Rattle.rules_profile.specs.Stated.{roles_at}
use Rattle.rules.specs.RuleSetView.{roles_in}
use Rattle.unroll_strata.proofs.accepted.has_roles.Given as goal

abbrev pub invariant-loop-role : goal.invariant-loop-role
invariant-loop-role l = map text (roles_at (trees_in l.items) (take l.role l.places)) ≡ take l.role (roles_in l.rules)
