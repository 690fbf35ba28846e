use Rattle.meaning.proofs.Fold.{listing_exact}
use Rattle.meaning.proofs.Exact.{heads_exact, numbered_exact}
use Rattle.meaning.proofs.listing_laws.the_listing_is_exact.Goals as goal

pub returns : goal.returns
returns c = record { instances = listing_exact; heads = heads_exact; atoms = numbered_exact }
