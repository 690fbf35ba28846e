use Rattle.meaning.proofs.Exact.{instances_once, one_listing}
use Rattle.meaning.proofs.Rising.{kept_in_order}
use Rattle.meaning.proofs.listing_laws.the_listing_is_in_order.Goals as goal

pub returns : goal.returns
returns c = record { order = kept_in_order; once = instances_once; determined = one_listing }
