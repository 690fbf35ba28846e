use Rattle.std.proofs.Common.{ℕ, List, length, subst, sym, arith}
use Rattle.ground_terms.specs.Building.{PartsPlaced}
use Rattle.ground_terms.proofs.KeyTrees.{below_more}
use Rattle.ground_terms.proofs.Built.{begins_longer, atom_ready, atom_exact}
use Rattle.ground_terms.proofs.arena.Arena.atom.Goals as goal

-- where a part is a list, the terms may have grown before they are built
pub build-requires-clause-values : goal.build-requires-clause-values
build-requires-clause-values c = below_more _ _ _ (begins_longer _ _ c.in_ok-number.ensures.grows.keys) c.requires.values

pub intern_top-requires-clause-terms : goal.intern_top-requires-clause-terms
intern_top-requires-clause-terms c = atom_ready _ _ _ _ _ _ _ c.in_ok-build.ensures (omega arith)

pub returns-clause-exact : goal.returns-clause-exact
returns-clause-exact c =
    let grows = c.in_ok-number.ensures.grows in
    atom_exact _ _ _ _ _ _ _ _ _ _
    (subst (λ (ss : List ℕ). PartsPlaced (length ss) (length c.args.values.now) c.args.parts.now) (sym grows.sizes) c.requires.placed)
    (below_more _ _ _ (begins_longer _ _ grows.keys) c.requires.values)
    c.in_ok-build.ensures (omega arith) c.in_ok-number-2.ensures.interns
