use Rattle.std.proofs.Common.{◌≡◌, ◌≢◌, ◌≤◌, ◌+◌, ◌-◌, ◌∙◌, sym, Some, arith, w16, rules as facts}
use Rattle.std.proofs.lemmas.Int.{to_z-of_z}
use mir.Val.{SFits}
use Rattle.program_searches.proofs.Held.{further, broken, on_err}
use Rattle.statement.specs.Value.{choice_of}
use Rattle.program_searches.specs.Histories.{named}
use Rattle.maximin.proofs.Facts.{chosen_open}
use Rattle.program_searches.proofs.Turning.{line_pieces}
use Rattle.program_searches.proofs.writing.write_turns.Goals as goal

pub returns-in_err-write_turn-clause-front : goal.returns-in_err-write_turn-clause-front
returns-in_err-write_turn-clause-front g c =
    let game = named (g.G.Game.rules c.args.game.now) (g.G.Game.role_name c.args.game.now) (g.G.Game.move_name c.args.game.now) in
    let asked = c.args.asked in
    let left = c.loop-chosen.left in
    let here = g.G.Game.state c.args.game.now c.loop-chosen.play.here in
    let next = g.G.Game.state c.args.game.now c.turn.new.self.here in
    let t = c.turn.ensures.turn in
    let chosen : choice_of game.rules asked.role left asked.at here ≡ Some c.in-Some.own = sym c.loop-chosen.invariant.chosen ∙ c.in-Some.is in
    let number : c.from.result + c.from-turns.result ≡ c.args.number + (asked.depth - left) = omega (arith, c.from.ensures, c.from-turns.ensures) in
    let pieces = line_pieces game asked.role left (c.args.number + (asked.depth - left)) asked.at here next c.in-Some.own
    c.turn.new.self.joint.items chosen t.reply t.after in
    on_err c.from_residual.result _ (broken _ _ _ _ _ _ _ c.loop-chosen.invariant.lines pieces (rw number at c.in_err-write_turn.ensures.front))

pub loop-chosen-preserved : goal.loop-chosen-preserved
loop-chosen-preserved g c =
    let game = named (g.G.Game.rules c.args.game.now) (g.G.Game.role_name c.args.game.now) (g.G.Game.move_name c.args.game.now) in
    let asked = c.args.asked in
    let left = c.loop-chosen.left in
    let here = g.G.Game.state c.args.game.now c.loop-chosen.play.here in
    let next = g.G.Game.state c.args.game.now c.turn.new.self.here in
    let t = c.turn.ensures.turn in
    let chosen : choice_of game.rules asked.role left asked.at here ≡ Some c.in-Some.own = sym c.loop-chosen.invariant.chosen ∙ c.in-Some.is in
    let number : c.from.result + c.from-turns.result ≡ c.args.number + (asked.depth - left) = omega (arith, c.from.ensures, c.from-turns.ensures) in
    let pieces = line_pieces game asked.role left (c.args.number + (asked.depth - left)) asked.at here next c.in-Some.own
    c.turn.new.self.joint.items chosen t.reply t.after in
    let some : left ≢ 0 = (chosen_open game.rules asked.role left asked.at here c.in-Some.own chosen).turn in
    let positive : 1 ≤ left = omega (arith, some) in
    let count : c.args.number + (asked.depth - left) + 1 ≡ c.args.number + (asked.depth - (left - 1)) =
    omega (arith, positive, c.loop-chosen.invariant.within) in
    let fits : SFits w16 c.args.found.now.value = search facts in
    let kept = c.turn.ensures.play in
    let room = c.choice_by_value-chosen.ensures.room in
    record {
      play = record { here = kept.play.here; next = kept.play.next; joint = kept.play.joint; room = room.room };
      same = room.depth ∙ kept.depth ∙ c.loop-chosen.invariant.same;
      deep = omega (arith, room.depth, kept.depth, c.loop-chosen.invariant.deep);
      within = omega (arith, c.loop-chosen.invariant.within);
      worth = sym (to_z-of_z w16 c.args.found.now.value fits) ∙ t.stays;
      chosen = c.choice_by_value-chosen.ensures.choice;
      lines = rw count at (further _ _ _ _ _ _ _ c.loop-chosen.invariant.lines pieces (rw number at c.in_ok-write_turn.ensures.whole));
    }
