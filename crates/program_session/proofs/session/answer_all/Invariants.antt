use Rattle.program_requests.specs.Desks.{IsDesk, rules_kept, to_come}
use Rattle.program_session.specs.Kept.{AreKept, IsKeptGame}
use Rattle.program_session.proofs.Holding.{IsHeld}
use Rattle.program_session.proofs.session.answer_all.Given as goal

abbrev pub invariant-loop : goal.invariant-loop
invariant-loop g l =
    IsDesk l.desk
    × IsHeld l.fn.language (g.R.Read.remaining l.fn.input) (to_come l.desk (g.R.Read.remaining l.input)) (g.W.Write.contents l.fn.output)
    (g.W.Write.contents l.output) (rules_kept l.desk)
    × AreKept (IsKeptGame g.G.Game g.G.GroundGame.source) l.fn.language
    (rules_kept l.desk) l.kept.written l.kept.made
