use Rattle.std.proofs.Common.{sym, ◌∙◌, arith}
use Rattle.rules_profile.proofs.FormTests.{one_is_atom, two_are_no_atom}
use Rattle.rules_profile.proofs.forms.is_one_atom_tree.Goals as goal

pub returns-in_default-2 : goal.returns-in_default-2
returns-in_default-2 g c = sym (two_are_no_atom c.args.parts.now c.in_default.len_at_least)

pub returns-in-len1 : goal.returns-in-len1
returns-in-len1 g c =
    c.is_atom_tree.ensures
    ∙ sym (one_is_atom c.args.parts.now c.part-item.result (omega (arith, c.in-len1.len_at_least)) (omega (arith, c.in-len1.len_below)) c.part-item.is)
