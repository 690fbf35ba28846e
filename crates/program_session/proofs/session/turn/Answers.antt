use Rattle.program_session.specs.Telling.{frame_bytes}
use Rattle.program_requests.specs.Desks.{to_come}
use Rattle.program_session.specs.Kept.{IsKeptGame}
use Rattle.program_session.proofs.Keeping.{still_kept}
use Rattle.program_session.proofs.Turning.{turned, broken}
use Rattle.program_session.proofs.session.turn.Goals as goal

pub returns-in_default-write_out-clause-turn : goal.returns-in_default-write_out-clause-turn
returns-in_default-write_out-clause-turn g c =
    broken c.args.language c.in-Ok.taken c.args.desk.now c.take.new.self _ _ _ _ (frame_bytes c.frame_for-frame.result) c.in-Ok.ensures.taken
    c.frame_for-frame.ensures.frame (rw c.bytes.ensures at c.in_default-write_out.ensures.front)

pub returns-clause-turn : goal.returns-clause-turn
returns-clause-turn g c =
    turned c.args.language c.in-Ok.taken c.args.desk.now c.take.new.self _ _ _ _ (frame_bytes c.frame_for-frame.result) c.in-Ok.ensures.taken
    c.frame_for-frame.ensures.frame c.goes_on.result c.goes_on.ensures (rw c.bytes.ensures at c.in-Ok-write_out.ensures.whole)

pub frame_for-frame-requires-clause-kept : goal.frame_for-frame-requires-clause-kept
frame_for-frame-requires-clause-kept g c κs within =
    still_kept (IsKeptGame g.G.Game g.G.GroundGame.source) c.args.language
    c.in-Ok.taken c.args.desk.now c.take.new.self (to_come c.args.desk.now (g.R.Read.remaining c.args.input.now))
    (to_come c.take.new.self (g.R.Read.remaining c.take.new.input)) c.args.kept.now.written c.forget.new.kept.written c.args.kept.now.made
    c.forget.new.kept.made c.in-Ok.ensures.taken c.requires.kept c.forget.ensures.written c.forget.ensures.made
