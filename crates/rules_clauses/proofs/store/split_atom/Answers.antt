use Rattle.std.proofs.Common.{ap, ◌∙◌}
use Rattle.kif.specs.View.{tree_of}
use Rattle.statement.specs.Items.{is_atom}
use Rattle.rules_profile.proofs.Facts.{tree_is_slice, no_word_no_atom}
use Rattle.rules_clauses.proofs.NumberLemmas.{true_or_false}
use Rattle.rules_clauses.proofs.store.split_atom.Goals as goal

pub unreachable-requires : goal.unreachable-requires
unreachable-requires g c =
    true_or_false (is_atom (tree_of c.args.e.now)) c.requires (ap is_atom (tree_is_slice _ _ _ c.in-List.is c.deref-in-List.ensures.value)
    ∙ no_word_no_atom _ c.in-None.ensures)
