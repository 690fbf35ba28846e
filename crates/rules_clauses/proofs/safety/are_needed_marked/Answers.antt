use Rattle.std.proofs.Common.{refl}
use Rattle.rules_clauses.specs.StoreView.{data_of}
use Rattle.rules_clauses.proofs.MarkLemmas.{one_from, test_on, test_off}
use Rattle.rules_clauses.proofs.safety.are_needed_marked.Goals as goal

pub returns-then-not-is_literal_marked : goal.returns-then-not-is_literal_marked
returns-then-not-is_literal_marked c =
    test_off c.args.from (data_of c.args.store.now) c.args.marks.now c.args.body.now c.loop-number.number-index _ c.loop-number.invariant
    (one_from c.args.body.now c.loop-number.number-index _ 0 c.loop-number-test.true refl) (c.if-not-is_literal_marked.ensures)

pub loop-number-preserved : goal.loop-number-preserved
loop-number-preserved c =
    test_on c.args.from (data_of c.args.store.now) c.args.marks.now c.args.body.now c.loop-number.number-index _ c.loop-number.invariant
    (one_from c.args.body.now c.loop-number.number-index _ 0 c.loop-number-test.true refl) (c.if-not-is_literal_marked.ensures)
