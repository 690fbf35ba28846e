use Rattle.std.proofs.Common.{rules}
use Rattle.ground_terms.proofs.Written.{begun, next_known, wrote_next, less_left, all_left}
use Rattle.ground_terms.proofs.arena.Arena.write_term.Goals as goal

pub loop-next-init : goal.loop-next-init
loop-next-init c = begun _ _ _ _ _ _ _ c.clear.ensures.items c.in_ok-begin_term.ensures

pub write_next-requires-clause-next : goal.write_next-requires-clause-next
write_next-requires-clause-next c = next_known _ _ _ _ _ _ _ c.loop-next.invariant c.in-Some.ensures.items

pub loop-next-smaller : goal.loop-next-smaller
loop-next-smaller c = less_left _ _ _ _ _ _ _ _ c.in-Some.ensures.items c.in_ok-write_next.ensures.longer c.in_ok-write_next.ensures.writes

pub loop-next-preserved : goal.loop-next-preserved
loop-next-preserved c = wrote_next _ _ _ _ _ _ _ _ _ c.loop-next.invariant c.in-Some.ensures.items c.in_ok-write_next.ensures.writes

pub returns : goal.returns
returns c = all_left _ _ _ _ _ (search rules) c.loop-next.invariant
