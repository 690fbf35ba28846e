use Rattle.std.proofs.Common.{arith}
use Rattle.kif.specs.View.{tree_of}
use Rattle.rules_profile.specs.Names.{names_behind}
use Rattle.statement.specs.Safety.{variables}
use Rattle.rules_profile.proofs.Sizes.{part_smaller}
use Rattle.rules_profile.proofs.NameSets.{gathers_more, many_already, variables_from}
use Rattle.rules_profile.proofs.variables.+gathering.Goals as goal

pub gather_all-gather-requires : goal.gather_all-gather-requires
gather_all-gather-requires g t c κs within =
    let k = part_smaller _ _ _ c.loop-part-test.true c.part-item.is in
    (omega (arith, k, c.decreases), (within, (c.loop-part.invariant.1, c.loop-part.invariant.2)))

pub gather_all-returns-then-not-gather-clause-many : goal.gather_all-returns-then-not-gather-clause-many
gather_all-returns-then-not-gather-clause-many g t c =
    let from = variables_from _ _ _ c.loop-part-test.true c.part-item.is in
    many_already _ (variables (tree_of c.part-item.result)) _ (names_behind c.loop-part.seen.items) _ from c.loop-part.invariant.0
    c.if-not-gather.ensures.many

pub gather_all-loop-part-preserved : goal.gather_all-loop-part-preserved
gather_all-loop-part-preserved g t c =
    let from = variables_from _ _ _ c.loop-part-test.true c.part-item.is in
    let g' = c.if-not-gather.ensures.all in
    (gathers_more _ (variables (tree_of c.part-item.result)) _ _ _ _ from c.loop-part.invariant.0 g', g'.different, c.gather.ensures.few)
