use Rattle.std.proofs.Common.{sym, ◌∙◌}
use Rattle.unroll_layers.proofs.TestLemmas.{next_name}
use Rattle.unroll_layers.proofs.naming.name_of.Goals as goal

pub loop-place-preserved : goal.loop-place-preserved
loop-place-preserved c =
    c.loop-place.invariant ∙ next_name _ _ _ _ _ c.loop-place-test.true (sym c.is_same.ensures ∙ c.if-is_same.false)
