use Rattle.std.proofs.Common.{arith}
use Rattle.program_searches.proofs.solving.lines_of_found.Goals as goal

pub write_found-requires-clause-play : goal.write_found-requires-clause-play
write_found-requires-clause-play g c κs within = record {
  known = c.requires.play.known;
  play = c.stand.ensures.play.play;
  deep = omega (arith, c.stand.ensures.play.depth, c.requires.play.deep);
}

pub write_found-requires-clause-found : goal.write_found-requires-clause-found
write_found-requires-clause-found g c κs within = rw c.stand.ensures.here c.requires.found
