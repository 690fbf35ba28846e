use Rattle.rules_profile.proofs.Accepted.{fixed_tested, rank_below, relations_complete}
use Rattle.rules_profile.proofs.ListLaws.{rank_equation}
use Rattle.rules_profile.proofs.laws.acyclic_sets_are_ranked.Goals as goal

pub returns : goal.returns
returns c = record { fixed = fixed_tested; rank = rank_below; equation = rank_equation; listed = relations_complete }
