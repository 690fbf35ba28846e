use Rattle.std.proofs.Common.{◌≡◌, ◌++◌, List, map, sym, ap, ◌∙◌, arith}
use Rattle.statement.specs.Tree.{Tree, Trees, name, list, tree, trees_of}
use Rattle.kif.specs.View.{tree_of, trees_in}
use Rattle.kif.proofs.Facts.{tree_of-List}
use Rattle.rules_profile.proofs.Facts.{if_ok, tree_is_slice, part_smaller}
use Rattle.unroll_strata.specs.Steps.{step_literal}
use Rattle.unroll_strata.proofs.TreeLemmas.{literals_map, no_word}
use Rattle.unroll_strata.proofs.literals.+stepping.Goals as goal

pub add_literals-literal-requires : goal.add_literals-literal-requires
add_literals-literal-requires t c =
    let k = part_smaller _ _ _ c.loop-part-test.true c.part-item.is in (omega (arith, k, c.decreases), tt)

pub joined-returns : goal.joined-returns
joined-returns t c =
    tree_of-List _ ∙ ap (λ (ts : List Tree). list (trees_of ts))
    (c.in_ok-add_literals.ensures ∙ ap (λ (ts : List Tree). ts ++ map (step_literal c.args.own.now) (trees_in c.args.parts.now)) c.in_ok-made.ensures)
    ∙ ap (λ (us : Trees). list (tree (name c.args.word.now) us)) (sym (literals_map c.args.own.now (trees_in c.args.parts.now)))

pub literal-returns-in-None : goal.literal-returns-in-None
literal-returns-in-None t c =
    let h = tree_is_slice _ _ _ c.in-List.is c.deref.ensures.value in
    let same : step_literal c.args.own.now (tree_of c.args.e.now) ≡ tree_of c.args.e.now =
    ap (step_literal c.args.own.now) h ∙ no_word c.args.own.now _ c.in-None.ensures ∙ sym h in
    if_ok c.copy_to.result _ _ (λ made e. e ∙ sym same) c.copy_to.ensures
