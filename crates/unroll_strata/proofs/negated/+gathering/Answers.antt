use Rattle.std.proofs.Common.{◌≡◌, ◌++◌, [], map, sym, ap, ◌∙◌, arith}
use Rattle.std.proofs.lemmas.List.{append-nil}
use Rattle.kif.specs.View.{tree_of}
use Rattle.rules_profile.specs.Standing.{literals_in}
use Rattle.rules_profile.proofs.Facts.{tree_is_slice, tree_is_word, rest_smaller, part_smaller}
use Rattle.rules_relations.specs.Relations.{relation_in}
use Rattle.unroll_strata.specs.Numbering.{negated_among}
use Rattle.unroll_strata.proofs.NegatedLemmas.{none_there, one_gathered}
use Rattle.unroll_strata.proofs.negated.+gathering.Goals as goal

pub gather-returns-in-None : goal.gather-returns-in-None
gather-returns-in-None t c =
    let before = map relation_in c.args.found.now.items in
    let nothing : literals_in (tree_of c.args.e.now) ≡ [] =
    ap literals_in (tree_is_slice _ _ _ c.in-List.is c.deref.ensures.value) ∙ none_there _ c.in-None.ensures in
    sym (ap (λ ls. before ++ negated_among ls) nothing ∙ append-nil before)

pub gather-gather_all-requires : goal.gather-gather_all-requires
gather-gather_all-requires t c =
    let h = tree_is_word _ _ _ _ _ c.in-List.is c.deref.ensures.value c.in-Some.ensures in let k = rest_smaller _ _ _ h in (omega (arith, k, c.decreases), tt)

pub gather_all-gather-requires : goal.gather_all-gather-requires
gather_all-gather-requires t c =
    let k = part_smaller _ _ _ c.loop-part-test.true c.part-item.is in (omega (arith, k, c.decreases), tt)

pub gather_all-loop-part-preserved : goal.gather_all-loop-part-preserved
gather_all-loop-part-preserved t c =
    one_gathered c.args.parts.now c.loop-part.part-index c.part-item.result _ _ _ c.loop-part-test.true c.part-item.is c.loop-part.invariant
    c.in_ok-gather.ensures
