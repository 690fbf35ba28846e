use Rattle.std.proofs.Common.{sym, ◌∙◌}
use Rattle.kif.specs.View.{tree_of}
use Rattle.rules_profile.proofs.Facts.{if_ok}
use Rattle.unroll_strata.proofs.PlainLemmas.{plain_rule, some_trees}
use Rattle.unroll_strata.proofs.forms.plain.Goals as goal

pub returns : goal.returns
returns c =
    if_ok c.rule.result _ _
    (λ made e. e ∙ plain_rule (tree_of c.args.item.now) _ _ c.split_item.ensures.head c.split_item.ensures.body (some_trees c.split_item.result.1.now (sym c.is_empty.ensures ∙ c.if-is_empty.false)))
    c.rule.ensures
