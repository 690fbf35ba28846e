use Rattle.std.proofs.Common.{sym, ap, ◌∙◌}
use Rattle.kif.specs.View.{tree_of, trees_in}
use Rattle.statement.specs.Tree.{parts_of}
use Rattle.kif.proofs.Facts.{tree_of-List, list_of-trees_of}
use Rattle.game.proofs.replaying.parts.Goals as goal

pub returns-in-List : goal.returns-in-List
returns-in-List g c =
    ap trees_in c.as_slice.ensures.value
    ∙ sym (list_of-trees_of (trees_in c.in-List.parts.items))
    ∙ ap parts_of (sym (tree_of-List c.in-List.parts))
    ∙ ap (λ e. parts_of (tree_of e)) (sym c.in-List.is)
