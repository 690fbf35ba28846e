use Rattle.program_searches.proofs.asked_alone.lines_by.Goals as goal

pub returns-in-Whole-clause-lines : goal.returns-in-Whole-clause-lines
returns-in-Whole-clause-lines g c = rw c.in-Whole.is c.best_lines.ensures.lines

pub returns-in-Within-clause-lines : goal.returns-in-Within-clause-lines
returns-in-Within-clause-lines g c = rw c.in-Within.is c.lines_within.ensures.lines

pub returns-in-OfEachMove-clause-lines : goal.returns-in-OfEachMove-clause-lines
returns-in-OfEachMove-clause-lines g c = rw c.in-OfEachMove.is c.lines_of_moves.ensures.lines

pub returns-in-LineOfEachMove-clause-lines : goal.returns-in-LineOfEachMove-clause-lines
returns-in-LineOfEachMove-clause-lines g c = rw c.in-LineOfEachMove.is c.moves_with_lines.ensures.lines

pub returns-in-OfEachDepth-clause-lines : goal.returns-in-OfEachDepth-clause-lines
returns-in-OfEachDepth-clause-lines g c = rw c.in-OfEachDepth.is c.lines_by_depth.ensures.lines
