use Rattle.std.proofs.Common.{map, ◌++◌, [], ◌∷◌, List, ap, ◌∙◌}
use Rattle.statement.specs.Tree.{Tree, name, list, trees_of}
use Rattle.statement.specs.Words.{w_if, w_next}
use Rattle.kif.specs.View.{tree_of, trees_in}
use Rattle.kif.proofs.Facts.{tree_of-List}
use Rattle.unroll_strata.specs.Steps.{pair, step_literal}
use Rattle.unroll_strata.proofs.TreeLemmas.{one_more, made_step}
use Rattle.unroll_strata.proofs.items.step.Goals as goal

pub returns : goal.returns
returns c =
    let body = map (step_literal c.args.own.now) (trees_in c.split_item.result.1.now) in
    tree_of-List _ ∙ ap (λ (ts : List Tree). list (trees_of ts))
    (c.in_ok-add_literals.ensures
    ∙ ap (λ (ts : List Tree). ts ++ body)
    (one_more _ _ _ c.in_ok-push.ensures.items
    ∙ ap (λ (ts : List Tree). ts ++ tree_of c.in_ok-next.next ∷ []) c.in_ok-made.ensures
    ∙ ap (λ (t : Tree). name w_if ∷ t ∷ []) (c.in_ok-next.ensures ∙ ap (pair w_next) c.in_ok-term.ensures)))
    ∙ made_step c.args.own.now (tree_of c.args.item.now) (tree_of c.split_item.result.0.now) (trees_in c.split_item.result.1.now)
    c.split_item.ensures.head c.split_item.ensures.body
