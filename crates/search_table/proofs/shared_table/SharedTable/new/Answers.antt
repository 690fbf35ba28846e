use Rattle.std.proofs.Common.{sym, subst, ◌∙◌}
use Rattle.atomic_table.specs.Table.{opening}
use Rattle.search_table.specs.Sharing.{AreGuarded, IsRight}
use Rattle.search_table.proofs.Steps.{opens}
use Rattle.search_table.proofs.shared_table.SharedTable.new.Goals as goal

pub new-requires : goal.new-requires
new-requires g c = let game = c.args.game.now in
    subst (λ ws. AreGuarded (IsRight g.G.Game game) (opening ws c.in_ok-tables.tables.items game)) (sym (c.as_slice.ensures.value ∙ c.in_ok-words.ensures))
    (opens (IsRight g.G.Game game) _ c.in_ok-tables.tables.items game c.in_ok-tables.ensures.count c.in_ok-tables.ensures.right)
