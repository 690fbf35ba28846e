use Rattle.std.proofs.Common.{not, sym, ap}
use Rattle.statement.specs.Items.{is_item}
use Rattle.statement.specs.Profile.{bad_form}
use Rattle.rules_profile.proofs.Firsts.{found_here, found_later, found_nowhere}
use Rattle.rules_profile.proofs.forms.first_bad_form.Goals as goal

pub returns-then-not-is_item_tree : goal.returns-then-not-is_item_tree
returns-then-not-is_item_tree g c =
    found_here bad_form (λ t. not (is_item t)) _ _ _ c.loop-index.invariant c.loop-index-test.true c.index-items-index.is
    (ap not (sym c.if-not-is_item_tree.ensures))

pub loop-index-preserved : goal.loop-index-preserved
loop-index-preserved g c =
    found_later bad_form (λ t. not (is_item t)) _ _ _ c.loop-index.invariant c.loop-index-test.true c.index-items-index.is
    (ap not (sym c.if-not-is_item_tree.ensures))

pub returns : goal.returns
returns g c = found_nowhere bad_form (λ t. not (is_item t)) _ _ c.loop-index.invariant c.loop-index-test.false
