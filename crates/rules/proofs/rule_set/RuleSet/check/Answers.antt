use Rattle.std.proofs.Common.{List, sym, subst, map}
use Rattle.kif.specs.View.{trees_in}
use Rattle.statement.specs.Items.{alternatives}
use Rattle.rules.specs.Drafts.{Numbered, StandForAlternatives}
use Rattle.rules_clauses.specs.StoreView.{data_of}
use Rattle.rules_clauses.proofs.Facts.{extends_refl}
use Rattle.rules.proofs.AnswerLemmas.{has_items, is_sound, rules_stand, each_own}
use Rattle.rules.proofs.rule_set.RuleSet.check.Goals as goal

pub invariant_of-result : goal.invariant_of-result
invariant_of-result g c =
    let items = trees_in c.args.items.now in
    let is = c.in_ok-all.ensures.accepted in
    let d = data_of c.in_ok-all.all.draft.store in
    let stand = each_own d _ _ _ (alternatives items) c.in_ok-alternatives.ensures c.deref.ensures.value (is.read.alternatives d (extends_refl d)) in
    record {
      accepted = ∣ has_items items d _ _ is.clean stand is.texts ∣₁;
      sound = is_sound items d _ _ _ _ is.read.words is.read.signatures is.read.named stand is.laid is.keywords;
    }

pub returns-clause-accepted : goal.returns-clause-accepted
returns-clause-accepted g c =
    let items = trees_in c.args.items.now in
    let is = c.in_ok-all.ensures.accepted in
    let d = data_of c.in_ok-all.all.draft.store in (
      is.clean,
      rules_stand d _ _ (each_own d _ _ _ (alternatives items) c.in_ok-alternatives.ensures c.deref.ensures.value
          (is.read.alternatives d (extends_refl d))),
      is.texts,
    )
