use Rattle.std.proofs.Common.{sym, ap, ◌∙◌}
use Rattle.rules_profile.proofs.Facts.{tree_is_slice}
use Rattle.unroll_layers.specs.Kinds.{is_single}
use Rattle.unroll_layers.proofs.TestLemmas.{no_word_single}
use Rattle.unroll_layers.proofs.kinds.is_single.Goals as goal

pub returns-in-None : goal.returns-in-None
returns-in-None c = sym (ap is_single (tree_is_slice _ _ _ c.in-List.is c.deref.ensures.value) ∙ no_word_single _ c.in-None.ensures)
