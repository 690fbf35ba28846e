use Rattle.std.proofs.Common.{sym, ◌∙◌}
use Rattle.std.specs.Cmp.Lexicographic.{same_text}
use Rattle.search_table.proofs.RowLemmas.{row_split}
use Rattle.search_table.proofs.rows.is_row_of.Goals as goal

pub returns : goal.returns
returns c = λ same. (
  row_split c.args.row.now c.args.key.now (sym c.is_empty.ensures ∙ c.if-is_empty.false) (same_text _ _ (sym same ∙ c.eq.ensures)),
  c.if-row-eq0.false,
)
