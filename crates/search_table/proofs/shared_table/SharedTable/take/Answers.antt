use Rattle.std.proofs.Common.{◌<◌, subst, rules}
use Rattle.search_table.specs.Sharing.{IsRight}
use Rattle.search_table.proofs.Steps.{takes_one}
use Rattle.search_table.proofs.shared_table.SharedTable.take.Goals as goal

pub swap_new_seat-found-requires : goal.swap_new_seat-found-requires
swap_new_seat-found-requires g c = let shared = c.args.self.now.table.shared in
    (c.requires, takes_one (IsRight g.G.Game shared.key) shared.table_id.slots c.args.place shared.key (subst (λ n. c.args.place < n) c.args.self.now.sized c.requires))

pub returns-clause-right : goal.returns-clause-right
returns-clause-right g c = c.swap_new_seat-found.ensures.1 (search rules)
