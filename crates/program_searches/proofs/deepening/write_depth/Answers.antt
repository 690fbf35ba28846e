use Rattle.std.proofs.Common.{refl, ◌∙◌, arith}
use Rattle.program_searches.proofs.Held.{begun, further, ended, broken, on_err}
use Rattle.program_searches.specs.Histories.{named}
use Rattle.program_searches.proofs.Pieces.{depth_pieces}
use Rattle.program_searches.proofs.deepening.write_depth.Goals as goal

pub write_found-requires-clause-play : goal.write_found-requires-clause-play
write_found-requires-clause-play g c κs within = record {
  known = c.requires.play.known;
  play = c.stand.ensures.play.play;
  deep = omega (arith, c.stand.ensures.play.depth, c.found_in-found.ensures.room.depth, c.requires.play.deep);
}

pub write_found-requires-clause-found : goal.write_found-requires-clause-found
write_found-requires-clause-found g c κs within = rw c.stand.ensures.here c.found_in-found.ensures.found

pub returns-in_err-write_count-clause-front : goal.returns-in_err-write_count-clause-front
returns-in_err-write_count-clause-front g c =
    let asked = c.args.asked in
    let pieces = depth_pieces (named (g.G.Game.rules c.args.game.now) (g.G.Game.role_name c.args.game.now) (g.G.Game.move_name c.args.game.now)) asked.role asked.at (g.G.Game.state c.args.game.now c.args.root.now) asked.depth in
    on_err c.from_residual.result _ (broken _ _ _ _ _ _ _ (begun _ _) pieces (rw c.from.ensures at c.in_err-write_count.ensures.front))

pub returns-in_err-write_found-clause-front : goal.returns-in_err-write_found-clause-front
returns-in_err-write_found-clause-front g c =
    let asked = c.args.asked in
    let pieces = depth_pieces (named (g.G.Game.rules c.args.game.now) (g.G.Game.role_name c.args.game.now) (g.G.Game.move_name c.args.game.now)) asked.role asked.at (g.G.Game.state c.args.game.now c.args.root.now) asked.depth in
    let depth_line = further _ _ _ _ _ _ _ (begun _ _) pieces (rw c.from.ensures at c.in_ok-write_count.ensures.whole) in
    on_err c.from_residual-in_err-write_found.result _
    (broken _ _ _ _ _ _ _ depth_line refl (rw c.stand.ensures.here at c.in_err-write_found.ensures.front))

pub returns-in_err-flush-clause-front : goal.returns-in_err-flush-clause-front
returns-in_err-flush-clause-front g c =
    let asked = c.args.asked in
    let pieces = depth_pieces (named (g.G.Game.rules c.args.game.now) (g.G.Game.role_name c.args.game.now) (g.G.Game.move_name c.args.game.now)) asked.role asked.at (g.G.Game.state c.args.game.now c.args.root.now) asked.depth in
    let depth_line = further _ _ _ _ _ _ _ (begun _ _) pieces (rw c.from.ensures at c.in_ok-write_count.ensures.whole) in
    let lines = further _ _ _ _ _ _ _ depth_line refl (rw c.stand.ensures.here at c.in_ok-write_found.ensures.whole) in
    on_err c.from_residual-in_err-flush.result _ (broken _ _ _ _ _ _ _ lines refl c.in_err-flush.ensures.front)

pub returns-clause-whole : goal.returns-clause-whole
returns-clause-whole g c =
    let asked = c.args.asked in
    let pieces = depth_pieces (named (g.G.Game.rules c.args.game.now) (g.G.Game.role_name c.args.game.now) (g.G.Game.move_name c.args.game.now)) asked.role asked.at (g.G.Game.state c.args.game.now c.args.root.now) asked.depth in
    let depth_line = further _ _ _ _ _ _ _ (begun _ _) pieces (rw c.from.ensures at c.in_ok-write_count.ensures.whole) in
    let lines = further _ _ _ _ _ _ _ depth_line refl (rw c.stand.ensures.here at c.in_ok-write_found.ensures.whole) in
    ended _ _ _ _ (further _ _ _ _ _ _ _ lines refl c.in_ok-flush.ensures.whole) refl

pub returns-clause-play : goal.returns-clause-play
returns-clause-play g c = record {
  play = c.in_ok-write_found.ensures.play.play;
  depth = c.in_ok-write_found.ensures.play.depth ∙ c.stand.ensures.play.depth ∙ c.found_in-found.ensures.room.depth;
}
