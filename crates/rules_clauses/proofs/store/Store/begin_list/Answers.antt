use Rattle.rules_profile.proofs.Facts.{on_ok}
use Rattle.rules_clauses.proofs.AddingLemmas.{begins_list}
use Rattle.rules_clauses.proofs.store.Store.begin_list.Goals as goal

pub returns : goal.returns
returns c = on_ok c.push_part.result _ _ (λ e. begins_list c.args.from _ _ _ _ _ _ c.in_ok-symbol.ensures.kept c.in_ok-symbol.ensures.found e)
    c.push_part.ensures
