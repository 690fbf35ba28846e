use Rattle.std.proofs.Common.{ℕ, List, map, subst, sym, ◌∙◌}
use Rattle.std.specs.Bool.{OnTrue}
use Rattle.statement.specs.Tree.{trees_of, text}
use Rattle.statement.specs.Items.{alternatives}
use Rattle.statement.specs.Profile.{HasNoFault, roles}
use Rattle.statement.specs.Reading.{Reads}
use Rattle.kif.specs.View.{trees_in}
use Rattle.meaning.specs.Derivable.{IsStratified}
use Rattle.meaning.specs.Possible.{PlaysAs}
use Rattle.unroll_strata.specs.Lawful.{IsAccepted}
use Rattle.unroll.specs.Played.{played_items}
use Rattle.unroll.specs.Written.{IsShown}
use Rattle.unroll.proofs.Claims.{if_both, true_on, shown_if, says_if, no_rest}
use Rattle.unroll.proofs.unrolling.rewritten.Goals as goal

pub returns-clause-written : goal.returns-clause-written
returns-clause-written g c =
    let found = trees_in c.args.items.now in
    let written = trees_in c.in_ok-written.written.items in
    let is_shown = c.in_ok-is_shown.is_shown in
    let accepted : IsAccepted (map text (roles found)) written =
    subst (λ (es : List _). IsAccepted (map text (roles found)) (trees_in es)) c.deref-3.ensures.value c.in_ok-accept.ensures.accepted in
    let plays : OnTrue is_shown (HasNoFault written → IsStratified (alternatives found) → PlaysAs (alternatives (played_items c.args.bounds found)) (alternatives written)) =
    subst (λ (es : List _). OnTrue is_shown (HasNoFault (trees_in es) → IsStratified (alternatives found)
    → PlaysAs (alternatives (played_items c.args.bounds found)) (alternatives (trees_in es)))) c.deref-4.ensures.value c.in_ok-is_shown.ensures.shown in
    let strata : IsStratified (alternatives found) =
    c.items_that_cross_nothing_are_stratified.ensures found c.in_ok-refuse_crossed.ensures.stratified in
    if_both c.with_claim.result _ _ _ c.with_claim.ensures.reads c.with_claim.ensures.said (λ out reads says. record {
      items = written;
      reads = reads (trees_of written) (subst (λ (bytes : List ℕ). Reads bytes (trees_of written)) (c.deref.ensures.value ∙ sym c.deref-7.ensures.value) c.in_ok-written.ensures.reads);
      accepted = accepted;
      asked = c.in_ok-refuse_unstated.ensures.stated;
      played = λ shown.
          shown_if is_shown (IsShown out.items) (PlaysAs (alternatives (played_items c.args.bounds found)) (alternatives written)) says
          (λ e. true_on is_shown _ plays e accepted.faultless strata) shown;
      shown = λ stated none base inputs. says_if is_shown (IsShown out.items) says
          (true_on c.stay-has_to_be.result _ c.in_ok-is_shown.ensures.always
          (c.stay-has_to_be.ensures (no_rest found c.in_ok-rests_on_itself.rests_on_itself c.in_ok-rests_on_itself.ensures.yes none) stated base inputs));
    })
