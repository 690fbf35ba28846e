use Rattle.rules_profile.proofs.Closure.{table_sound, table_complete}
use Rattle.rules_profile.proofs.laws.dependence_is_tested.Goals as goal

pub returns : goal.returns
returns c = λ rules p q. (table_sound rules p q, table_complete rules p q)
