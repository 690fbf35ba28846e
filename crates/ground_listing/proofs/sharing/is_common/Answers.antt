use Rattle.std.proofs.Common.{List, inr, subst}
use Rattle.rules_clauses.specs.declared.numbered.Part.{Part}
use Rattle.ground_rows.specs.Pairs.{HaveSameValues}
use Rattle.ground_listing.proofs.sharing.is_common.Goals as goal

pub returns : goal.returns
returns c = λ yes from places e. inr (λ xs ys. subst (λ (ps : List Part). HaveSameValues xs ys ps) e (c.have_no_variables.ensures yes xs ys))
