use Rattle.std.proofs.Common.{inl, inr, sym, ◌∙◌}
use Rattle.program_requests.specs.Desks.{rules_kept}
use Rattle.program_session.specs.Telling.{frame_bytes}
use Rattle.program_session.specs.Kept.{IsKeptGame}
use Rattle.program_session.proofs.FrameTexts.{long_is}
use Rattle.program_session.proofs.Standing.{answers_over}
use Rattle.program_session.proofs.Keeping.{same_kept}
use Rattle.program_session.proofs.framing.line_frame.Goals as goal

pub returns-in_default-clause-frame : goal.returns-in_default-clause-frame
returns-in_default-clause-frame g c = λ line rules has stand. inl (c.in_default.ensures line has.1, long_is)

pub frame_of-requires-after_bounds : goal.frame_of-requires-after_bounds
frame_of-requires-after_bounds g c κs within =
    same_kept (IsKeptGame g.G.Game g.G.GroundGame.source) c.args.language
    (rules_kept c.args.desk.now) c.rules.result.now c.args.kept.now.written c.args.kept.now.made (sym c.rules.ensures) c.requires.kept

pub returns-clause-kept : goal.returns-clause-kept
returns-clause-kept g c =
    same_kept (IsKeptGame g.G.Game g.G.GroundGame.source) c.args.language
    c.rules.result.now (rules_kept c.args.desk.now) c.frame_of.new.kept.written c.frame_of.new.kept.made c.rules.ensures c.frame_of.ensures.kept

pub returns-clause-frame : goal.returns-clause-frame
returns-clause-frame g c = λ line rules has stand.
    let whole = c.in-Some.ensures line has.1 in
    inr (
      whole.0,
      has.2 whole.0,
      answers_over c.args.language c.rules.result.now rules (frame_bytes c.frame_of.result) (c.rules.ensures ∙ stand) c.frame_of.ensures.frame,
    )
