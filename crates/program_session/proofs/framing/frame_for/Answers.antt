use Rattle.program_session.proofs.FrameTexts.{taken_is, starved_is, cut_is}
use Rattle.program_session.proofs.framing.frame_for.Goals as goal

pub returns-in-Rules-clause-frame : goal.returns-in-Rules-clause-frame
returns-in-Rules-clause-frame g c = rw c.in-Rules.is taken_is

pub returns-in-Starved-clause-frame : goal.returns-in-Starved-clause-frame
returns-in-Starved-clause-frame g c = rw c.in-Starved.is starved_is

pub returns-in-Cut-clause-frame : goal.returns-in-Cut-clause-frame
returns-in-Cut-clause-frame g c = rw c.in-Cut.is cut_is
