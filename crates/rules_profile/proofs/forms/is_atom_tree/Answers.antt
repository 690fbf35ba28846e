use Rattle.std.proofs.Common.{◌∙◌, sym, ap}
use Rattle.statement.specs.Items.{is_atom}
use Rattle.rules_profile.proofs.FormTests.{tree_is_slice, no_word_no_atom}
use Rattle.rules_profile.proofs.forms.is_atom_tree.Goals as goal

pub returns-in-None : goal.returns-in-None
returns-in-None g c =
    sym (ap is_atom (tree_is_slice _ _ _ c.in-List.is c.deref-in-List.ensures.value) ∙ no_word_no_atom _ c.in-None.ensures)
