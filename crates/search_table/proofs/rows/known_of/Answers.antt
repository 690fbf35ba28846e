use Rattle.std.proofs.Common.{get_or, sym, subst}
use Rattle.search_table.specs.declared.entry.Entry.{Entry}
use Rattle.search_table.specs.Says.{Says}
use Rattle.search_table.proofs.rows.known_of.Goals as goal

pub returns-clause-says : goal.returns-clause-says
returns-clause-says c = λ worth few holds.
    let is = c.is_row_of.ensures c.if-not-is_row_of.false in
    subst (λ (e : Entry). Says e (worth c.args.key.now)) (sym c.read_entry.ensures.says)
    (holds (get_or c.args.row.now 0 0) c.args.key.now is.0 is.1)
