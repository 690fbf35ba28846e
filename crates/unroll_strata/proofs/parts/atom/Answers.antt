use Rattle.std.proofs.Common.{◌++◌, List, sym, ap, ◌∙◌}
use Rattle.statement.specs.Tree.{Tree, list, trees_of}
use Rattle.kif.specs.View.{trees_in}
use Rattle.kif.proofs.Facts.{tree_of-List}
use Rattle.unroll_strata.proofs.TreeLemmas.{atom_list}
use Rattle.unroll_strata.proofs.parts.atom.Goals as goal

pub returns : goal.returns
returns c =
    tree_of-List _ ∙ ap (λ (ts : List Tree). list (trees_of ts))
    (c.in_ok-add_copies.ensures ∙ ap (λ (ts : List Tree). ts ++ trees_in c.args.terms.now) c.in_ok-made.ensures)
    ∙ atom_list c.args.word.now c.args.terms.now (sym c.is_empty.ensures ∙ c.if-is_empty.false)
