use Rattle.maximin.proofs.memory.recall.Goals as goal

pub returns-then-not-may_find-clause-within : goal.returns-then-not-may_find-clause-within
returns-then-not-may_find-clause-within g c = c.unknown.ensures (g.G.Game.state c.args.game.now c.args.from.now)
