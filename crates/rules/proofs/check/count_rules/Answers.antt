use Rattle.std.proofs.Common.{ap, length, ◌∙◌, sym}
use Rattle.kif.specs.View.{trees_in}
use Rattle.rules_clauses.specs.StoreView.{data_of}
use Rattle.rules_clauses.proofs.Facts.{extends_refl}
use Rattle.rules.proofs.AnswerLemmas.{as_many_alternatives, as_many_relations}
use Rattle.rules.proofs.check.count_rules.Goals as goal

pub returns-clause-accepted : goal.returns-clause-accepted
returns-clause-accepted g c =
    let items = trees_in c.args.items.now in
    let is = c.in_ok-all.ensures.accepted in
    let all = c.in_ok-all.all in
    let d = data_of all.draft.store in (
      is.clean,
      c.len-alternatives.ensures ∙ all.draft.alternatives.ok.0 ∙ as_many_alternatives d all.draft.alternatives.items items (is.read.alternatives d (extends_refl d)),
      c.len-relations.ensures ∙ all.layout.order.ok.0 ∙ as_many_relations d items _ _ is.laid,
      is.texts,
    )
