use Rattle.rules_profile.proofs.Facts.{one_atom_alone}
use Rattle.rules_clauses.proofs.readings.only_part.Goals as goal

pub returns : goal.returns
returns g c = one_atom_alone c.args.parts.now c.index-parts-0.result c.requires c.index-parts-0.is
