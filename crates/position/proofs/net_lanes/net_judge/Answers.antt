use Rattle.std.proofs.Common.{subst}
use Rattle.position.specs.NetLanes.{IsJudged}
use Rattle.position.proofs.net_lanes.net_judge.Goals as goal

pub net_steps-requires-clause-probe : goal.net_steps-requires-clause-probe
net_steps-requires-clause-probe c = c.args.game.now.laned.end_probe _ c.in-Some.is

pub net_steps-requires-clause-to : goal.net_steps-requires-clause-to
net_steps-requires-clause-to c = let game = c.args.game.now in subst (λ o. IsJudged game.played o c.args.w.now.judged) c.in-Some.is c.requires.wide.judged
