use Rattle.std.proofs.Common.{drop}
use Rattle.program_searches.proofs.Held.{Written}
use Rattle.statement.specs.Checking.{spaced}
use Rattle.program_searches.specs.Histories.{named}
use Rattle.statement.specs.Solving.{move_texts}
use Rattle.program_searches.proofs.writing.write_moves.Given as goal

-- the moves before this one are written
abbrev pub invariant-loop-role : goal.invariant-loop-role
invariant-loop-role g l =
    let texts = move_texts (named (g.G.Game.rules l.game) (g.G.Game.role_name l.game) (g.G.Game.move_name l.game)) l.joint.items in
    Written (g.W.Write.contents l.fn.out) (g.W.Write.contents l.out) (spaced texts) (spaced (drop l.role texts))
