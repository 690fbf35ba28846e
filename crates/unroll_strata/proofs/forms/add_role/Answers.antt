use Rattle.std.proofs.Common.{[], ◌∷◌, sym, ap, ◌∙◌}
use Rattle.statement.specs.Tree.{Tree, name, list, no_trees, tree, trees_of}
use Rattle.statement.specs.Words.{w_role}
use Rattle.kif.specs.View.{tree_of, trees_in}
use Rattle.unroll_strata.specs.Plain.{behind}
use Rattle.unroll_strata.proofs.PlainLemmas.{one_more, behind_append, behind_none}
use Rattle.unroll_strata.proofs.forms.add_role.Goals as goal

pub returns-in_ok-push-in-Some : goal.returns-in_ok-push-in-Some
returns-in_ok-push-in-Some c =
    let before = trees_of (trees_in c.args.made.now.items) in
    ap trees_of (one_more _ _ _ c.in_ok-push-in-Some.ensures.items) ∙ behind_append (trees_in c.args.made.now.items) (tree_of c.in_ok-literal-in-Some.literal ∷ [])
    ∙ ap (λ (t : Tree). behind before (tree t no_trees))
    (c.in_ok-literal-in-Some.ensures ∙ ap (λ (t : Tree). list (tree (name w_role) (tree t no_trees))) c.in_ok-variable-in-Some.ensures)
    ∙ ap (behind before) (sym c.in-Some.ensures)

pub returns-in-None : goal.returns-in-None
returns-in-None c = behind_none _ ∙ ap (behind (trees_of (trees_in c.args.made.now.items))) (sym c.in-None.ensures)
