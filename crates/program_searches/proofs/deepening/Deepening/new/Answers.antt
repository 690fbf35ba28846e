use Rattle.std.proofs.Common.{arith}
use Rattle.program_searches.proofs.deepening.Deepening.new.Goals as goal

pub returns-clause-ready : goal.returns-clause-ready
returns-clause-ready g c = record {
  fits = c.requires.fits;
  ahead = record {
    known = c.requires.role;
    play = c.in_ok-play.ensures.play;
    deep = omega (arith, c.in_ok-play.ensures.deep, c.in_ok-room.ensures.depth);
  };
  further = c.in_ok-settling.ensures;
}
