use Rattle.rules_profile.proofs.RoleLists.{IsListedTo}
use Rattle.rules_profile.proofs.roles.roles_within_limits.Given as goal

abbrev pub invariant-loop-index : goal.invariant-loop-index
invariant-loop-index g l = IsListedTo l.items l.index l.places.items
