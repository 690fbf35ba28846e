use Rattle.std.proofs.Common.{arith}
use Rattle.ground_terms.proofs.Built.{ready, next, built_all}
use Rattle.ground_terms.proofs.arena.Arena.build.Goals as goal

pub put_part-requires : goal.put_part-requires
put_part-requires c = ready _ _ _ _ _ _ _ _ (omega arith) (omega arith) c.requires.full c.requires.placed c.loop-left.invariant.built

pub loop-left-preserved : goal.loop-left-preserved
loop-left-preserved c = record {
  built = next _ _ _ _ _ _ _ _ _ _ (omega arith) (omega arith) c.requires.full c.requires.placed c.requires.values c.loop-left.invariant.built
      c.in_ok-put_part.ensures;
  within = omega arith;
}

pub returns : goal.returns
returns c = built_all _ _ _ _ _ _ _ (omega arith) c.requires.placed c.requires.values c.loop-left.invariant.built
