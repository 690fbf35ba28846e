use Rattle.std.proofs.Common.{◌≡◌, drop}
use Rattle.rules_profile.specs.Names.{names_behind}
use Rattle.statement.specs.Safety.{is_name_in}
use Rattle.rules_profile.proofs.variables.is_among.Given as goal

abbrev pub invariant-loop-other : goal.invariant-loop-other
invariant-loop-other l = is_name_in l.name (names_behind l.names) ≡ is_name_in l.name (names_behind (drop l.other-index l.names))
