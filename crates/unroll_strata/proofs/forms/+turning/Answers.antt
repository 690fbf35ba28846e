use Rattle.std.proofs.Common.{◌≡◌, ◌++◌, List, map, sym, ap, ◌∙◌, arith}
use Rattle.std.specs.Prelude.{not}
use Rattle.statement.specs.Tree.{Tree, Trees, name, list, tree, trees_of}
use Rattle.kif.specs.View.{tree_of, trees_in}
use Rattle.kif.proofs.Facts.{tree_of-List}
use Rattle.rules_profile.proofs.Facts.{if_ok, tree_is_slice, tree_is_word, part_smaller}
use Rattle.unroll_strata.specs.Plain.{turned, plain_literal}
use Rattle.unroll_strata.proofs.PlainLemmas.{literals_map, no_word, not_word, no_negation, far_smaller, only_smaller, one_turned}
use Rattle.unroll_strata.proofs.forms.+turning.Goals as goal

pub joined-returns : goal.joined-returns
joined-returns t c =
    tree_of-List _ ∙ ap (λ (ts : List Tree). list (trees_of ts))
    (c.in_ok-add_literals.ensures ∙ ap (λ (ts : List Tree). ts ++ map (plain_literal c.args.is_wrong) (trees_in c.args.parts.now)) c.in_ok-made.ensures)
    ∙ ap (λ (us : Trees). list (tree (name c.args.word.now) us)) (sym (literals_map c.args.is_wrong (trees_in c.args.parts.now)))

pub literal-joined-requires : goal.literal-joined-requires
literal-joined-requires t c =
    let h = tree_is_word _ _ _ _ _ c.in-List.is c.deref.ensures.value c.in-Some.ensures in let k = far_smaller _ _ _ h in (omega (arith, k, c.decreases), tt)

pub literal-joined-requires-in-And : goal.literal-joined-requires-in-And
literal-joined-requires-in-And t c =
    let h = tree_is_word _ _ _ _ _ c.in-List.is c.deref.ensures.value c.in-Some.ensures in let k = far_smaller _ _ _ h in (omega (arith, k, c.decreases), tt)

pub literal-literal-requires : goal.literal-literal-requires
literal-literal-requires t c =
    let h = tree_is_word _ _ _ _ _ c.in-List.is c.deref.ensures.value c.in-Some.ensures in
    let k = only_smaller _ _ _ _ h c.in-Some-only_part.ensures in (omega (arith, k, c.decreases), tt)

pub add_literals-literal-requires : goal.add_literals-literal-requires
add_literals-literal-requires t c =
    let k = part_smaller _ _ _ c.loop-part-test.true c.part-item.is in (omega (arith, k, c.decreases), tt)

pub joined-add_literals-requires : goal.joined-add_literals-requires
joined-add_literals-requires t c = (omega (arith, c.decreases), tt)

pub add_literals-loop-part-preserved : goal.add_literals-loop-part-preserved
add_literals-loop-part-preserved t c =
    one_turned (plain_literal c.args.is_wrong) c.args.parts.now c.loop-part.part-index c.part-item.result _ _ c.in_ok-one.one _ c.loop-part-test.true c.part-item.is
    c.loop-part.invariant c.in_ok-push.ensures.items c.in_ok-one.ensures

pub literal-returns-in-None : goal.literal-returns-in-None
literal-returns-in-None t c =
    let h = tree_is_slice _ _ _ c.in-List.is c.deref.ensures.value in
    let same : plain_literal c.args.is_wrong (tree_of c.args.e.now) ≡ turned c.args.is_wrong (tree_of c.args.e.now) =
    ap (plain_literal c.args.is_wrong) h ∙ no_word c.args.is_wrong _ c.in-None.ensures ∙ ap (turned c.args.is_wrong) (sym h) in
    if_ok c.turned-in-None.result _ _ (λ made e. e ∙ sym same) c.turned-in-None.ensures

pub literal-returns-in-None-only_part : goal.literal-returns-in-None-only_part
literal-returns-in-None-only_part t c =
    let h = tree_is_word _ _ _ _ _ c.in-List.is c.deref.ensures.value c.in-Some.ensures in
    let same : plain_literal c.args.is_wrong (tree_of c.args.e.now) ≡ turned c.args.is_wrong (tree_of c.args.e.now) =
    ap (plain_literal c.args.is_wrong) h ∙ no_negation c.args.is_wrong _ _ c.in-Not.ensures c.in-None-only_part.ensures ∙ ap (turned c.args.is_wrong) (sym h) in
    if_ok c.turned-in-None-only_part.result _ _ (λ made e. e ∙ sym same) c.turned-in-None-only_part.ensures

pub literal-returns-in-Some-only_part : goal.literal-returns-in-Some-only_part
literal-returns-in-Some-only_part t c =
    let h = tree_is_word _ _ _ _ _ c.in-List.is c.deref.ensures.value c.in-Some.ensures in
    let same : plain_literal c.args.is_wrong (tree_of c.args.e.now) ≡ plain_literal (not c.args.is_wrong) (tree_of c.in-Some-only_part.part.now) =
    ap (plain_literal c.args.is_wrong) (h ∙ ap (λ (ts : List Tree). list (tree (name c.in-Some.word.now) (trees_of ts))) c.in-Some-only_part.ensures)
    ∙ not_word c.args.is_wrong _ (tree_of c.in-Some-only_part.part.now) c.in-Not.ensures in
    if_ok c.literal.result _ _ (λ made e. e ∙ sym same) c.literal.ensures
