use Rattle.rules_profile.proofs.Accepted.{accepted_acyclic, accepted_safe}
use Rattle.rules_profile.proofs.laws.accepted_sets_are_acyclic.Goals as goal

pub returns : goal.returns
returns c = record { acyclic = accepted_acyclic; safe = accepted_safe }
