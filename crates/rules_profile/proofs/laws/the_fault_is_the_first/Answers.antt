use Rattle.rules_profile.proofs.FirstFaults.{fault_said, fault_found}
use Rattle.rules_profile.proofs.laws.the_fault_is_the_first.Goals as goal

pub returns : goal.returns
returns c = λ items f. (fault_said items f, fault_found items f)
