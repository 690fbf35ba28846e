use Rattle.std.proofs.Common.{◌∙◌, sym, subst}
use Rattle.kif.specs.View.{trees_in}
use Rattle.statement.specs.declared.rule_fault.RuleFault.{RuleFault}
use Rattle.statement.specs.RuleFaults.{IsRuleFault}
use Rattle.rules_clauses.specs.StoreView.{data_of}
use Rattle.rules.proofs.AnswerLemmas.{dependence_fault, no_fault, texts_are}
use Rattle.rules_profile.proofs.Facts.{err_given}
use Rattle.rules.proofs.TextLemmas.{places_inside}
use Rattle.rules.proofs.check.describe.Goals as goal

pub layout_of-requires : goal.layout_of-requires
layout_of-requires g c = (trees_in c.args.items.now, c.in_ok-draft.ensures.read)

pub returns-in_err-layout-clause-refused : goal.returns-in_err-layout-clause-refused
returns-in_err-layout-clause-refused g c =
    let items = trees_in c.args.items.now in
    let said = c.in_err-layout.ensures.faults items c.in_ok-draft.ensures.read in
    err_given c.from_residual-in_err-layout.result _ _ c.from_residual-in_err-layout.ensures.1
    (λ fault same. subst (λ (f : RuleFault). IsRuleFault items f) (sym same)
    (dependence_fault items _ c.in_ok-places.ensures.passed c.in_ok-draft.ensures.safe said))

pub role_texts-requires : goal.role_texts-requires
role_texts-requires g c = places_inside c.args.items.now c.in_ok-places.places.items _ c.in_ok-places.ensures.places.within c.deref.ensures.0

pub returns-clause-accepted : goal.returns-clause-accepted
returns-clause-accepted g c =
    let items = trees_in c.args.items.now in
    let read = c.in_ok-draft.ensures.read in
    let laid = c.in_ok-layout.ensures.laid items read in
    record {
      clean = no_fault items c.in_ok-places.places.items (data_of c.in_ok-draft.draft.store) _ _ c.in_ok-places.ensures.passed
          c.in_ok-draft.ensures.safe laid c.in_ok-places.ensures.roles c.in_ok-places.ensures.places (sym c.is_empty.ensures ∙ c.if-is_empty.false);
      read = read;
      keywords = c.in_ok-draft.ensures.keywords;
      laid = laid;
      texts = texts_are items c.in_ok-places.places.items c.deref.result.now _ c.in_ok-places.ensures.roles c.deref.ensures.0 c.in_ok-roles.ensures;
    }
