use Rattle.test_net.proofs.networks.judged.worths.Given as goal

abbrev pub invariant-loop-place : goal.invariant-loop-place
invariant-loop-place g l = record { here : g.G.Game.fits l.game l.here; next : g.G.Game.fits l.game l.next }
