use Rattle.std.proofs.Common.{arith}
use Rattle.ground_terms.proofs.Measures.{room_begins, room_next, room_over, placed_at}
use Rattle.ground_terms.proofs.arena.Arena.are_too_long.Goals as goal

pub loop-part-init : goal.loop-part-init
loop-part-init c = room_begins c.args.self.now c.args.values.now c.args.parts.now

pub bytes_of-bytes-requires-clause-placed : goal.bytes_of-bytes-requires-clause-placed
bytes_of-bytes-requires-clause-placed c = placed_at _ _ c.args.parts.now _ c.loop-part.part-index c.requires.placed c.loop-part-test.true

pub returns-then-bytes-left : goal.returns-then-bytes-left
returns-then-bytes-left c =
    λ _. room_over c.args.self.now c.args.values.now c.args.parts.now c.args.parts.now _ c.loop-part.part-index c.loop-part.left _
    c.loop-part-test.true c.loop-part.invariant c.bytes_of-bytes.ensures c.if-bytes-left.true

pub loop-part-preserved : goal.loop-part-preserved
loop-part-preserved c =
    room_next c.args.self.now c.args.values.now c.args.parts.now c.args.parts.now _ c.loop-part.part-index c.loop-part.left _
    c.loop-part-test.true c.loop-part.invariant c.bytes_of-bytes.ensures (let h = c.if-bytes-left.false in omega (arith, h))
