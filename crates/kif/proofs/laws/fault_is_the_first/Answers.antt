use Rattle.kif.proofs.Named.{first_if_fault, fault_if_first, none_stands}
use Rattle.kif.proofs.laws.fault_is_the_first.Goals as goal

pub returns : goal.returns
returns c = record { first = λ text f. (first_if_fault text f, fault_if_first text f); none = none_stands }
