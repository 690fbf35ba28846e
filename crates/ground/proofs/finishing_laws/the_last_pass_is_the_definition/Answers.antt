use Rattle.ground_terms.specs.Keys.{trees}
use Rattle.statement.specs.Listing.{listing, base_list}
use Rattle.ground_terms.proofs.Facts.{dropped_same, different, starts_same}
use Rattle.ground.proofs.FinishLemmas.{found_numbered}
use Rattle.ground.proofs.finishing_laws.the_last_pass_is_the_definition.Goals as goal

pub returns-clause-instances : goal.returns-clause-instances
returns-clause-instances c rules words differ held atoms found l =
    found_numbered rules (trees words held.keys) (different words differ held.keys l.terms.numbered.keyed) atoms (listing rules).atoms l.atoms_are
    found (listing rules).kept l.found_are

pub returns-clause-starts : goal.returns-clause-starts
returns-clause-starts c rules w words differ held atoms found l init n bases b e =
    starts_same rules w words differ held.keys l.terms.numbered.keyed init n.inside n.same atoms l.atoms_are bases (base_list rules) b e

pub returns-clause-dropped : goal.returns-clause-dropped
returns-clause-dropped c rules words differ held atoms found l named k bases roles inputs shown =
    dropped_same words differ held.keys l.terms.numbered.keyed named k rules bases roles inputs shown atoms (listing rules).atoms l.atoms_are
