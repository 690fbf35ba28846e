use Rattle.std.proofs.Common.{◌++◌, [], ◌∷◌, List, ap, ◌∙◌}
use Rattle.statement.specs.Tree.{Tree, name, list, trees_of}
use Rattle.statement.specs.Words.{w_if, w_base}
use Rattle.kif.specs.View.{tree_of, trees_in}
use Rattle.kif.proofs.Facts.{tree_of-List}
use Rattle.unroll_strata.specs.Steps.{pair}
use Rattle.unroll_strata.proofs.TreeLemmas.{one_more, made_based}
use Rattle.unroll_strata.proofs.items.based.Goals as goal

pub returns : goal.returns
returns c =
    let body = trees_in c.split_item.result.1.now in
    tree_of-List _ ∙ ap (λ (ts : List Tree). list (trees_of ts))
    (c.in_ok-add_copies.ensures
    ∙ ap (λ (ts : List Tree). ts ++ body)
    (one_more _ _ _ c.in_ok-push.ensures.items
    ∙ ap (λ (ts : List Tree). ts ++ tree_of c.in_ok-base.base ∷ []) c.in_ok-made.ensures
    ∙ ap (λ (t : Tree). name w_if ∷ t ∷ []) (c.in_ok-base.ensures ∙ ap (pair w_base) c.in_ok-term.ensures)))
    ∙ made_based (tree_of c.args.item.now) (tree_of c.split_item.result.0.now) body c.split_item.ensures.head c.split_item.ensures.body
