use Rattle.std.proofs.Common.{refl}
use Rattle.diagnose_places.proofs.Journeys.{one_on}
use Rattle.diagnose_places.proofs.walk.Walk.go_to.Goals as goal

pub loop-self-init : goal.loop-self-init
loop-self-init g c = record { walk = c.requires; text = refl; order = λ up. up }

pub loop-self-preserved : goal.loop-self-preserved
loop-self-preserved g c =
    one_on c.args.items.now c.args.index _ c.loop-self.self _ c.index-items-self.result c.loop-self.invariant c.loop-self-test.true c.if-index-items.false
    c.index-items-self.is refl refl refl c.skip_tree.ensures.text c.skip_tree.ensures.passed
