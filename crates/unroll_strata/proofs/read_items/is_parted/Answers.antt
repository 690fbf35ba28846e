use Rattle.std.proofs.Common.{sym, ◌∙◌}
use Rattle.kif.specs.View.{tree_of}
use Rattle.unroll_strata.proofs.WayLemmas.{parted}
use Rattle.unroll_strata.proofs.read_items.is_parted.Goals as goal

pub returns-then-is_own : goal.returns-then-is_own
returns-then-is_own c =
    parted _ (tree_of c.args.item.now) _ _ (sym c.heads_one-is_own.ensures ∙ c.if-is_own.true) c.split_item.ensures.body c.is_empty.ensures
