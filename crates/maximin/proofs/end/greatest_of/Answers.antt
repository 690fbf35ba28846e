use Rattle.std.proofs.Common.{ℕ, List, arith}
use Rattle.statement.specs.Value.{value}
use Rattle.maximin.proofs.Packs.{greatest_next}
use Rattle.maximin.proofs.end.greatest_of.Goals as goal

pub overflow_add-first : goal.overflow_add-first
overflow_add-first g c = omega (arith, c.requires.few, c.requires.within, c.loop-place-test.true)

pub loop-place-preserved : goal.loop-place-preserved
loop-place-preserved g c =
    let worth : List ℕ → ℕ = value (g.G.Game.rules c.args.game.now) c.args.asked.role c.args.asked.depth c.args.asked.at in
    greatest_next worth (g.G.Game.judged c.args.game.now c.args.wide.now) c.args.first c.loop-place.place c.judged_goal.result c.loop-place.highest
    c.greater-highest.result (omega (arith, c.requires.within, c.loop-place-test.true)) c.judged_goal.ensures c.loop-place.invariant
    c.greater-highest.ensures
