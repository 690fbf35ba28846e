use Rattle.unroll_strata.proofs.ItemStrata.{stratum, are_strata}
use Rattle.unroll_strata.proofs.strata_laws.items_that_cross_nothing_are_stratified.Goals as goal

pub returns : goal.returns
returns c = λ items crosses_nothing. (stratum items, are_strata items crosses_nothing)
