use Rattle.std.proofs.Common.{ap, ◌≤◌, length, arith}
use Rattle.kif.specs.View.{tree_of}
use Rattle.rules_profile.specs.Names.{names_behind}
use Rattle.statement.specs.Safety.{variables}
use Rattle.statement.specs.RuleLimits.{most_variables}
use Rattle.rules_profile.proofs.NameSets.{fits_or_not, length-names_behind}
use Rattle.rules_profile.proofs.variables.has_many_variables.Goals as goal

pub returns : goal.returns
returns g c =
    let size = length-names_behind c.gather.new.seen.items in
    let few = c.gather.ensures.few in
    let within : length (names_behind c.gather.new.seen.items) ≤ most_variables = omega arith in
    fits_or_not c.gather.result (names_behind c.new-seen.result.items) (names_behind c.gather.new.seen.items) (variables (tree_of c.args.e.now))
    (ap names_behind c.new-seen.ensures) within c.gather.ensures.all c.gather.ensures.many
