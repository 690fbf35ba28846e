use Rattle.std.proofs.Common.{◌≡◌, ◌-◌, w16, sym, ap, ◌∙◌}
use Rattle.std.proofs.lemmas.Int.{to_z-of_z}
use Rattle.std.specs.Prelude.{pos}
use Rattle.statement.specs.Value.{value, worst}
use Rattle.maximin.proofs.Facts.{choice_legal, choice_stays, chosen_open}
use Rattle.program_searches.proofs.play.Play.turn.Goals as goal

pub own_turn-requires-clause-open : goal.own_turn-requires-clause-open
own_turn-requires-clause-open g c κs within =
    chosen_open (g.G.Game.rules c.args.game.now) c.args.asked.role c.args.asked.depth c.args.asked.at (g.G.Game.state c.args.game.now c.args.self.now.here) c.args.own
    c.requires.own

pub own_turn-requires-clause-own : goal.own_turn-requires-clause-own
own_turn-requires-clause-own g c κs within =
    choice_legal (g.G.Game.rules c.args.game.now) c.args.asked.role c.args.asked.depth c.args.asked.at (g.G.Game.state c.args.game.now c.args.self.now.here) c.args.own
    c.requires.own

pub own_turn-requires-clause-worth : goal.own_turn-requires-clause-worth
own_turn-requires-clause-worth g c κs within =
    let game = g.G.Game.rules c.args.game.now in
    let state = g.G.Game.state c.args.game.now c.args.self.now.here in
    let stays : worst game c.args.asked.role (c.args.asked.depth - 1) c.args.asked.at state c.args.own ≡ value game c.args.asked.role c.args.asked.depth c.args.asked.at state =
    choice_stays game c.args.asked.role c.args.asked.depth c.args.asked.at state c.args.own c.requires.own in
    to_z-of_z w16 c.args.worth c.ranges.worth ∙ c.requires.worth ∙ ap pos (sym stays)
