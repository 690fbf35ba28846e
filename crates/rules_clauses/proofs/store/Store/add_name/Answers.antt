use Rattle.rules_profile.proofs.Facts.{on_ok}
use Rattle.rules_clauses.proofs.AddingLemmas.{adds_name}
use Rattle.rules_clauses.proofs.store.Store.add_name.Goals as goal

pub returns : goal.returns
returns c = on_ok c.push_part.result _ _ (λ e. adds_name c.args.from _ _ _ _ _ c.in_ok-part.ensures e) c.push_part.ensures
