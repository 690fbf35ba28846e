use Rattle.rules_profile.proofs.ListLaws.{names_law}
use Rattle.rules_profile.proofs.laws.accepted_items_have_lawful_names.Goals as goal

pub returns : goal.returns
returns c = names_law
