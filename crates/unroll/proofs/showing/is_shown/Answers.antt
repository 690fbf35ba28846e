use Rattle.std.proofs.Common.{List, not, ap, subst, sym, ◌∙◌}
use Rattle.statement.specs.Tree.{Tree}
use Rattle.statement.specs.Items.{alternatives}
use Rattle.kif.specs.View.{trees_in}
use Rattle.rules_profile.proofs.Facts.{if_ok}
use Rattle.meaning.specs.Derivable.{IsStratified}
use Rattle.meaning.specs.Possible.{PlaysAs}
use Rattle.unroll_writer.specs.declared.written.Bounds.{Bounds}
use Rattle.unroll.specs.Played.{heads_a_range, played_items}
use Rattle.unroll.proofs.Claims.{on_true_map}
use Rattle.unroll.proofs.Transfers.{still_stratified}
use Rattle.unroll.proofs.showing.is_shown.Goals as goal

pub returns-in_ok-played-in-Tightened : goal.returns-in_ok-played-in-Tightened
returns-in_ok-played-in-Tightened g c =
    let items = trees_in c.args.items.now in
    let written = trees_in c.args.written.now in
    let same = ap trees_in c.deref.ensures.value ∙ c.in_ok-played-in-Tightened.ensures in
    if_ok c.is_played-in-Tightened.result _ _ (λ is_so. on_true_map is_so _ _ (λ plays faultless strata.
    subst (λ (bounds : Bounds). PlaysAs (alternatives (played_items bounds items)) (alternatives written)) (sym c.in-Tightened.is)
    (subst (λ (ts : List Tree). PlaysAs (alternatives ts) (alternatives written)) same
    (plays faultless (subst (λ (ts : List Tree). IsStratified (alternatives ts)) (sym same)
    (still_stratified (λ t. not (heads_a_range t)) items strata))))))
    c.is_played-in-Tightened.ensures
