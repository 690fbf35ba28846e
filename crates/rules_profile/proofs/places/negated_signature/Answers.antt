use Rattle.rules_profile.proofs.Standings.{first_negated, none_negated}
use Rattle.rules_profile.proofs.places.negated_signature.Goals as goal

pub returns-in-Some : goal.returns-in-Some
returns-in-Some g c = first_negated c.in-Some.part.now _ c.args.parts.now _ c.in-Some.ensures.cases.0 c.signature_of.ensures

pub returns-in-None : goal.returns-in-None
returns-in-None g c = none_negated c.args.parts.now c.in-None.ensures.cases
