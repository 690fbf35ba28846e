use Rattle.std.proofs.Common.{sym, ap, ◌∙◌}
use Rattle.rules_profile.proofs.Facts.{tree_is_slice}
use Rattle.unroll_layers.specs.Kinds.{is_plain}
use Rattle.unroll_layers.proofs.TestLemmas.{no_word_plain}
use Rattle.unroll_layers.proofs.kinds.is_plain.Goals as goal

pub returns-in-None : goal.returns-in-None
returns-in-None c = sym (ap is_plain (tree_is_slice _ _ _ c.in-List.is c.deref.ensures.value) ∙ no_word_plain _ c.in-None.ensures)
