use Rattle.std.proofs.Common.{nat_eq, arith}
use Rattle.ground.proofs.FinishLemmas.{at_most_all}
use Rattle.ground.proofs.finishing.place_of.Goals as goal

pub overflow_cast-result : goal.overflow_cast-result
overflow_cast-result c =
    let h = at_most_all (nat_eq c.args.term) c.args.atoms.now.keys in
    let e = c.place.ensures in omega (arith, h, e, c.requires)
