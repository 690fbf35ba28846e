use Rattle.std.proofs.Common.{sym, ◌∙◌, ap}
use Rattle.std.specs.Prelude.{not}
use Rattle.diagnose_lint.proofs.Values.{not_two, second_of_two}
use Rattle.diagnose_lint.proofs.goals.has_bad_value.Goals as goal

pub returns-then-terms-ne2 : goal.returns-then-terms-ne2
returns-then-terms-ne2 g c = sym (not_two c.args.terms.now c.if-terms-ne2.true)

pub returns : goal.returns
returns g c =
    ap not c.is_goal_value.ensures
    ∙ sym (second_of_two c.args.terms.now c.index-terms-1.result c.if-terms-ne2.false c.index-terms-1.is)
