use Rattle.diagnose_lint.proofs.Starting.{openings_are}
use Rattle.diagnose_lint.proofs.opening_finding.openings_of.Goals as goal

pub returns : goal.returns
returns g c =
    let played = c.in_ok-game.game in
    openings_are c.args.ground (record {
      rules = g.G.Game.rules played;
      role_name = g.G.Game.role_name played;
      move_name = g.G.Game.move_name played;
    }) c.in_ok-game.ensures.plays c.in_ok-found.found.items c.in_ok-found.ensures
