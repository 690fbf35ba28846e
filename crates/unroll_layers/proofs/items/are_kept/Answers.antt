use Rattle.std.proofs.Common.{sym, ◌∙◌}
use Rattle.unroll_layers.proofs.TestLemmas.{both_hold, first_fails, empty_last, kept_is}
use Rattle.unroll_layers.proofs.items.are_kept.Goals as goal

pub returns-in_default : goal.returns-in_default
returns-in_default c = sym (empty_last _ _ _ _ c.in_default.ensures.cases)

pub returns-then-is_last : goal.returns-then-is_last
returns-then-is_last c =
    both_hold _ _ _ (sym c.is_carrying-is_last.ensures ∙ c.if-is_last.true) c.are_items_of.ensures ∙ kept_is _ _ _ _ _ _ c.in-Some.ensures.cases.0

pub returns-else-is_last : goal.returns-else-is_last
returns-else-is_last c =
    first_fails _ _ _ c.is_carrying-is_last.ensures (sym c.is_carrying-is_last.ensures ∙ c.if-is_last.false)
    ∙ kept_is _ _ _ _ _ _ c.in-Some.ensures.cases.0
