use Rattle.std.proofs.Common.{◌∷◌, [], ◌++◌, List, ap, ◌∙◌}
use Rattle.statement.specs.Tree.{Tree, list, trees_of}
use Rattle.kif.specs.View.{tree_of}
use Rattle.kif.proofs.Facts.{tree_of-List}
use Rattle.unroll_strata.proofs.PlainLemmas.{one_more}
use Rattle.unroll_strata.proofs.forms.pair.Goals as goal

pub returns : goal.returns
returns c =
    tree_of-List _ ∙ ap (λ (ts : List Tree). list (trees_of ts))
    (one_more _ _ _ c.in_ok-push.ensures.items ∙ ap (λ (ts : List Tree). ts ++ tree_of c.args.e ∷ []) c.in_ok-parts.ensures)
