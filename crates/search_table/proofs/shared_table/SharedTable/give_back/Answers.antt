use Rattle.std.proofs.Common.{◌<◌, subst}
use Rattle.search_table.specs.Sharing.{IsRight}
use Rattle.search_table.proofs.Steps.{gives_back}
use Rattle.search_table.proofs.shared_table.SharedTable.give_back.Goals as goal

pub store-requires : goal.store-requires
store-requires g c = let shared = c.args.self.now.table.shared in let place = c.args.place in (
  c.requires.table,
  c.requires.place,
  gives_back (IsRight g.G.Game shared.key) shared.table_id.slots c.args.seat.id place c.args.seat.me
      (subst (λ n. place < n) c.args.self.now.sized c.requires.place) c.requires.right,
)
