use Rattle.std.proofs.Common.{sym, ◌∙◌}
use Rattle.unroll_layers.proofs.TestLemmas.{next_known}
use Rattle.unroll_layers.proofs.fitting.has_repeated.Goals as goal

pub loop-relation-preserved : goal.loop-relation-preserved
loop-relation-preserved c =
    c.loop-relation.invariant
    ∙ next_known _ _ _ _ _ c.loop-relation-test.true (sym c.contains.ensures ∙ c.if-contains.false) (λ q. c.in_ok-insert.ensures q)
