use Rattle.std.proofs.Common.{sym, ◌∙◌}
use Rattle.unroll_strata.proofs.AloneTests.{on_not, stands_alone}
use Rattle.unroll_strata.proofs.alone.stand_alone.Goals as goal

pub returns : goal.returns
returns c =
    on_not _ _ (λ none. stands_alone _ _ _ _ _ (sym c.says_states.ensures ∙ c.if-says_states.false)
    (sym c.is_some_unfit.ensures ∙ c.if-is_some_unfit.false) (sym c.in_ok-is_written_straying.ensures ∙ c.if-is_written_straying.false)
    c.in_ok-set.ensures (sym c.in_ok-is_found_straying.ensures ∙ none))
