use Rattle.std.proofs.Common.{rules}
use Rattle.diagnose_places.proofs.Words.{run_more}
use Rattle.diagnose_places.proofs.trees.run_end.Goals as goal

pub loop-end-preserved : goal.loop-end-preserved
loop-end-preserved c =
    run_more c.args.text.now c.args.start c.loop-end.end (search rules) c.loop-end-test.true (search rules) c.loop-end.invariant
