use Rattle.std.proofs.Common.{◌∷◌, ap, sym, ◌∙◌}
use Rattle.atomic_table.specs.Table.{rest}
use Rattle.search_table.specs.Sharing.{IsRight}
use Rattle.search_table.proofs.Steps.{one_held}
use Rattle.search_table.proofs.shared_table.SharedTable.note.Goals as goal

pub slot_mut-table-requires : goal.slot_mut-table-requires
slot_mut-table-requires g c = let held = c.requires.right in
    (c.requires.table, (held.0, held.1 ∙ ap (λ l. (c.args.place, held.0) ∷ rest l) (sym held.1)))

pub returns-clause-right : goal.returns-clause-right
returns-clause-right g c = let right = IsRight g.G.Game c.args.self.now.table.shared.key in
    let one = one_held right c.args.place c.args.seat.now.me c.slot_mut-table.result.now c.requires.right c.slot_mut-table.ensures.value in (
      c.note_in.new.table,
      ap (λ l. (c.args.place, c.note_in.new.table) ∷ l) one.0,
      c.note_in.ensures _ _ one.1 c.requires.bounds,
    )
