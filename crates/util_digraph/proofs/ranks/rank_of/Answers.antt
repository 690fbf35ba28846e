use Rattle.std.proofs.Common.{refl}
use Rattle.util_digraph.proofs.SuccessorLemmas.{raised_more, raised_all}
use Rattle.util_digraph.proofs.ranks.rank_of.Goals as goal

pub loop-next-preserved : goal.loop-next-preserved
loop-next-preserved c = raised_more _ _ _ _ _ _ _ _ _ _ c.loop-next.invariant c.in-Some.ensures.steps refl c.max-rank.ensures

pub returns : goal.returns
returns c = raised_all _ _ _ _ _ _ c.loop-next.invariant c.in-None.ensures.steps.0
