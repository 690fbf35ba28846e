use Rattle.std.proofs.Common.{refl}
use Rattle.rules.specs.RuleSetView.{lists_of_set}
use Rattle.ground_matching.proofs.PlaceLemmas.{sorted_at}
use Rattle.ground_matching.proofs.placed.add_placed.Goals as goal

pub placed_part-requires-clause-sorted : goal.placed_part-requires-clause-sorted
placed_part-requires-clause-sorted c = sorted_at (lists_of_set c.args.set.now) c.args.from c.args.parts.now c.loop-part.part-index _ c.requires.sorted
    c.loop-part-test.true refl
