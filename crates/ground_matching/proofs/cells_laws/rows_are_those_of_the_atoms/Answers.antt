use Rattle.ground_matching.proofs.RowsStand.{rows_of_range}
use Rattle.ground_matching.proofs.cells_laws.rows_are_those_of_the_atoms.Goals as goal

pub returns : goal.returns
returns c = rows_of_range
