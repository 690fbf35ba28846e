use Rattle.test_net.proofs.networks.judged.add_stepped.Given as goal

abbrev pub invariant-loop-turn : goal.invariant-loop-turn
invariant-loop-turn g l = record { child : g.G.Game.fits l.game l.child; next : g.G.Game.fits l.game l.next }
