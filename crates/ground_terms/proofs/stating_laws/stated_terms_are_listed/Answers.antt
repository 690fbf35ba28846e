use Rattle.ground_terms.proofs.StatedTerms.{only_terms, second_terms}
use Rattle.ground_terms.proofs.stating_laws.stated_terms_are_listed.Goals as goal

pub returns : goal.returns
returns c = record { only = only_terms; second = second_terms }
