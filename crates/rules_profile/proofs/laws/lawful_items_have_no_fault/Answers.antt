use Rattle.rules_profile.proofs.Lawfulness.{law_said, law_found}
use Rattle.rules_profile.proofs.laws.lawful_items_have_no_fault.Goals as goal

pub returns : goal.returns
returns c = λ items. (law_said items, law_found items)
