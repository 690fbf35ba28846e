use Rattle.ground_matching.proofs.placed.marks_of.Goals as goal

pub mark_of-requires-clause-number : goal.mark_of-requires-clause-number
mark_of-requires-clause-number c = (c.requires c.loop-number.number-index c.loop-number-test.true).0

pub mark_of-requires-clause-relation : goal.mark_of-requires-clause-relation
mark_of-requires-clause-relation c = (c.requires c.loop-number.number-index c.loop-number-test.true).1
