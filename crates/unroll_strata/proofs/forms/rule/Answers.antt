use Rattle.std.proofs.Common.{false, map, ◌++◌, [], ◌∷◌, List, sym, ap, ◌∙◌}
use Rattle.statement.specs.Tree.{Tree, Trees, name, list, tree, trees_of}
use Rattle.statement.specs.Words.{w_if}
use Rattle.kif.specs.View.{tree_of, trees_in}
use Rattle.kif.proofs.Facts.{tree_of-List}
use Rattle.unroll_strata.specs.Plain.{plain_literal, role_literal, behind}
use Rattle.unroll_strata.proofs.PlainLemmas.{one_more, literals_map}
use Rattle.unroll_strata.proofs.forms.rule.Goals as goal

pub returns : goal.returns
returns c =
    let head : Tree = tree_of c.args.head.now in
    let role : Trees = role_literal (tree_of c.args.item.now) in
    let body : List Tree = trees_in c.args.body.now in
    let made = map (plain_literal false) body in
    tree_of-List _ ∙ ap list
    (c.in_ok-add_role.ensures
    ∙ ap (λ (ts : List Tree). behind (trees_of ts) role)
    (c.in_ok-add_literals.ensures
    ∙ ap (λ (ts : List Tree). ts ++ made)
    (one_more _ _ _ c.in_ok-push.ensures.items
    ∙ ap (λ (ts : List Tree). ts ++ tree_of c.in_ok-copy.copy ∷ []) c.in_ok-made.ensures
    ∙ ap (λ (t : Tree). name w_if ∷ t ∷ []) c.in_ok-copy.ensures))
    ∙ ap (λ (us : Trees). tree (name w_if) (tree head (behind us role))) (sym (literals_map false body)))
