use Rattle.rules_profile.proofs.ListLaws.{order_law}
use Rattle.rules_profile.proofs.laws.relations_stand_in_order.Goals as goal

pub returns : goal.returns
returns c = order_law
