use Rattle.meaning.proofs.Exact.{listed_suffice}
use Rattle.meaning.proofs.listing_laws.listed_instances_suffice.Goals as goal

pub returns : goal.returns
returns c = listed_suffice
