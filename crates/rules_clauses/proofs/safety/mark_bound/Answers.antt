use Rattle.std.proofs.Common.{refl}
use Rattle.rules_clauses.specs.StoreView.{data_of}
use Rattle.rules_clauses.proofs.MarkLemmas.{one_from, mark_on}
use Rattle.rules_clauses.proofs.safety.mark_bound.Goals as goal

pub loop-number-preserved : goal.loop-number-preserved
loop-number-preserved c =
    mark_on c.args.from (data_of c.args.store.now) c.args.marks.now c.loop-number.marks c.mark_literal.new.marks c.args.body.now
    c.loop-number.number-index _ c.loop-number.invariant
    (one_from c.args.body.now c.loop-number.number-index _ 0 c.loop-number-test.true refl) c.mark_literal.ensures
