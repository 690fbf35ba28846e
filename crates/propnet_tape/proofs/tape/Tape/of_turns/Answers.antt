use Rattle.propnet_tape.proofs.Tapes.{turn_tape, tape_then}
use Rattle.propnet_tape.proofs.tape.Tape.of_turns.Goals as goal

pub sources_of-requires : goal.sources_of-requires
sources_of-requires c = rw c.as_slice-marks.ensures.value c.in_ok-cones.ensures.closed.count

pub made-requires-clause-closed : goal.made-requires-clause-closed
made-requires-clause-closed c = rw c.as_slice-marks.ensures.value c.in_ok-cones.ensures.closed

pub returns : goal.returns
returns c = tape_then c.made.result _ _ (λ t h. turn_tape c.args.net.now c.args.kept.now _ _ t h c.in_ok-groups.ensures) c.made.ensures
