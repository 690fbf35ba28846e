use Rattle.kif.proofs.Names.{read_names, each_has_names}
use Rattle.kif.proofs.laws.names_are_lawful.Goals as goal

pub returns : goal.returns
returns c = record { together = read_names; each = each_has_names }
