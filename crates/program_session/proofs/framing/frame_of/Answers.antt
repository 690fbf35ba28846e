use Rattle.std.proofs.Common.{inr}
use Rattle.program_session.proofs.FrameTexts.{starved_is}
use Rattle.program_session.proofs.framing.frame_of.Goals as goal

pub returns-in-Err-clause-frame : goal.returns-in-Err-clause-frame
returns-in-Err-clause-frame g c = inr starved_is
