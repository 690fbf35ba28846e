use Rattle.test_net.proofs.networks.told_after.Given as goal

abbrev pub invariant-loop-place : goal.invariant-loop-place
invariant-loop-place g l = record { child : g.G.Game.fits l.game l.child }
