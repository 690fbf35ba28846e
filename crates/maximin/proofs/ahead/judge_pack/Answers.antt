use Rattle.std.proofs.Common.{take}
use Rattle.statement.specs.Rules.{IsTurn}
use Rattle.maximin.proofs.Runs.{known_each}
use Rattle.maximin.proofs.ahead.judge_pack.Goals as goal

pub judge_from-requires-clause-joints : goal.judge_from-requires-clause-joints
judge_from-requires-clause-joints g c =
    let rules = g.G.Game.rules c.args.game.now in
    known_each (λ j. IsTurn rules j) (take c.args.run.now.count c.deref.result.now) (rw c.deref.ensures.value c.requires.run.known)
