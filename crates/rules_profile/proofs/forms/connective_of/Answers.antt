use Rattle.std.proofs.Common.{sym}
use Rattle.kif.proofs.Facts.{name_eq_yes}
use Rattle.rules_profile.proofs.forms.connective_of.Goals as goal

pub returns-then-is_same_name : goal.returns-then-is_same_name
returns-then-is_same_name c = name_eq_yes c.args.word.now _ (sym c.if-is_same_name.ensures)

pub returns-then-is_same_name-2 : goal.returns-then-is_same_name-2
returns-then-is_same_name-2 c = name_eq_yes c.args.word.now _ (sym c.if-is_same_name-2.ensures)

pub returns-then-is_same_name-3 : goal.returns-then-is_same_name-3
returns-then-is_same_name-3 c = name_eq_yes c.args.word.now _ (sym c.if-is_same_name-3.ensures)
