use Rattle.maximin.proofs.memory.find_in_own.Goals as goal

pub returns-then-not-is_of : goal.returns-then-not-is_of
returns-then-not-is_of g c = c.unknown.ensures (g.G.Game.keyed c.args.game.now c.args.key.now)
