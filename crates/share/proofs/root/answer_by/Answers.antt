use Rattle.std.proofs.Common.{subst, sym}
use Rattle.search_split.specs.Cuts.{IsCut}
use Rattle.search_split.proofs.Facts.{few_of_two, few_of_three}
use Rattle.share.proofs.root.answer_by.Goals as goal

pub answer_middle-requires-clause-few : goal.answer_middle-requires-clause-few
answer_middle-requires-clause-few g c κs within = few_of_two c.in-Two.workers c.in-Two.behind
    (subst IsCut (sym c.in-Two.ensures.is) c.in-Two.ensures.lawful)

pub answer_first-requires-clause-few : goal.answer_first-requires-clause-few
answer_first-requires-clause-few g c κs within =
    few_of_three c.in-Three.first c.in-Three.workers c.in-Three.behind (subst IsCut (sym c.in-Three.ensures.is) c.in-Three.ensures.lawful)
