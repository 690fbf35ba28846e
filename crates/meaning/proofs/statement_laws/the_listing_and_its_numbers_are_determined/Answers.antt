use Rattle.meaning.proofs.Determined.{determined}
use Rattle.meaning.proofs.statement_laws.the_listing_and_its_numbers_are_determined.Goals as goal

pub returns : goal.returns
returns c = determined
