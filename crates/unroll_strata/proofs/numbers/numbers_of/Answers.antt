use Rattle.std.proofs.Common.{refl}
use Rattle.rules_relations.specs.Relations.{relation_in}
use Rattle.unroll_strata.proofs.WalkLemmas.{more_numbers}
use Rattle.unroll_strata.proofs.numbers.numbers_of.Goals as goal

pub loop-relation-preserved : goal.loop-relation-preserved
loop-relation-preserved c =
    more_numbers relation_in _ c.args.relations.now c.loop-relation.relation-index _ _ _ _ _ c.loop-relation-test.true refl c.loop-relation.invariant
    c.in_ok-add_number.ensures
