use Rattle.unroll.proofs.ByNumber.{reached_of}
use Rattle.unroll.proofs.laws.what_is_reached_by_number_is_reached.Goals as goal

pub returns : goal.returns
returns c = λ rules g is n k t place d.
    reached_of rules (c.kinds_say_what_atoms_are.ensures.sound rules (is.well_formed).acyclic) g is n k t place d
