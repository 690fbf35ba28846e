use Rattle.meaning.proofs.Exact.{numbered_in_order}
use Rattle.meaning.proofs.Numbered.{one_number}
use Rattle.meaning.proofs.listing_laws.atoms_are_numbered_in_order.Goals as goal

pub returns : goal.returns
returns c = record { once = one_number; appearance = numbered_in_order }
