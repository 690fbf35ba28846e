use Rattle.std.proofs.Common.{◌∷◌, [], ◌++◌, List, ap, ◌∙◌}
use Rattle.statement.specs.Tree.{Tree}
use Rattle.kif.specs.View.{tree_of, trees_in}
use Rattle.unroll_strata.proofs.PlainLemmas.{one_more}
use Rattle.unroll_strata.proofs.forms.begun.Goals as goal

pub returns : goal.returns
returns c =
    one_more _ _ _ c.in_ok-push.ensures.items ∙ ap (λ (ts : List Tree). ts ++ tree_of c.in_ok-first.first ∷ []) (ap trees_in c.new-made.ensures.items)
    ∙ ap (λ (t : Tree). t ∷ []) c.in_ok-first.ensures
