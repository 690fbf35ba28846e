use Rattle.std.proofs.Common.{not}
use Rattle.statement.specs.Items.{is_item}
use Rattle.statement.specs.Profile.{bad_form}
use Rattle.rules_profile.proofs.Firsts.{IsBehind}
use Rattle.rules_profile.proofs.forms.first_bad_form.Given as goal

abbrev pub invariant-loop-index : goal.invariant-loop-index
invariant-loop-index g l = IsBehind bad_form (λ t. not (is_item t)) l.items l.index
