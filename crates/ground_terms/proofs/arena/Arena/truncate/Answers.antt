use Rattle.ground_terms.proofs.Shortened.{cut_inside}
use Rattle.ground_terms.proofs.arena.Arena.truncate.Goals as goal

pub invariant_of-self : goal.invariant_of-self
invariant_of-self c =
    cut_inside c.self.inside.count_symbols c.self.inside.lengths.items c.self.inside.terms c.args.self.now c.args.many _ _ c.self.invariant
    c.self.view_is c.requires.symbols c.requires.within c.truncate-2.ensures.items c.truncate.ensures
