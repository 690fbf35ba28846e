use Rattle.maximin.proofs.memory.find_in.Goals as goal

pub returns-in-Nowhere : goal.returns-in-Nowhere
returns-in-Nowhere g c = c.unknown.ensures (g.G.Game.keyed c.args.game.now c.args.key.now)
