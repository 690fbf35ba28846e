use Rattle.std.proofs.Common.{◌≡◌, length, All}
use Rattle.search_table.specs.Sharing.{IsRight}
use Rattle.search_table.proofs.shared_table.empty_tables.Given as goal

-- so many tables were added, and each is right
abbrev pub invariant-loop-i : goal.invariant-loop-i
invariant-loop-i g l = record {
  count : length l.tables.items ≡ l._i;
  right : All (IsRight g.G.Game l.game) l.tables.items;
}
