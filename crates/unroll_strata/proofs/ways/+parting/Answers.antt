use Rattle.std.proofs.Common.{List, sym, ap, ◌∙◌, arith}
use Rattle.statement.specs.Tree.{Tree, trees_of}
use Rattle.kif.specs.View.{trees_in}
use Rattle.rules_profile.proofs.Facts.{tree_is_slice, part_smaller}
use Rattle.unroll_strata.specs.Readings.{way_picks, ways, ways_of_all}
use Rattle.unroll_strata.specs.Listing.{ways_at}
use Rattle.unroll_strata.proofs.WayLemmas.{no_word, one-picks, one_picked, all_picked}
use Rattle.unroll_strata.proofs.ways.+parting.Goals as goal

pub ways_of-returns-in-None : goal.ways_of-returns-in-None
ways_of-returns-in-None t c =
    ap ways_at c.new.ensures.items ∙ sym (ap ways (tree_is_slice _ _ _ c.in-List.is c.deref.ensures.value) ∙ no_word _ c.in-None.ensures)

pub ways_in_turn-ways_of-requires : goal.ways_in_turn-ways_of-requires
ways_in_turn-ways_of-requires t c = let k = part_smaller _ _ _ c.loop-part-test.true c.part-item.is in (omega (arith, k, c.decreases), tt)

pub ways_of_all-ways_of-requires : goal.ways_of_all-ways_of-requires
ways_of_all-ways_of-requires t c = let k = part_smaller _ _ _ c.loop-part-test.true c.part-item.is in (omega (arith, k, c.decreases), tt)

pub ways_of_all-loop-part-init : goal.ways_of_all-loop-part-init
ways_of_all-loop-part-init t c =
    ap (λ (ws : List (List Tree)). way_picks ws (ways_of_all (trees_of (trees_in c.args.parts.now)))) c.in_ok-all.ensures ∙ one-picks _

pub ways_of_all-loop-part-preserved : goal.ways_of_all-loop-part-preserved
ways_of_all-loop-part-preserved t c =
    one_picked c.args.parts.now c.loop-part.part-index c.part-item.result _ _ _ _ c.loop-part-test.true c.part-item.is c.loop-part.invariant c.in_ok-ways.ensures
    (c.in_ok-all-2.ensures ∙ λ i. way_picks (ways_at (c.deref.ensures.value i)) (ways_at (c.deref-in-loop-part.ensures.value i)))

pub ways_of_all-returns : goal.ways_of_all-returns
ways_of_all-returns t c = all_picked c.args.parts.now c.loop-part.part-index _ _ c.loop-part-test.false c.loop-part.invariant
