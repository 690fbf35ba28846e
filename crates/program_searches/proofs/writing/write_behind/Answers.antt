use Rattle.std.proofs.Common.{refl, ◌∙◌, ◌-◌, w16, arith}
use Rattle.std.proofs.lemmas.Int.{to_z-of_z}
use Rattle.program_searches.proofs.Held.{begun, further, ended, broken, on_err}
use Rattle.program_searches.specs.Histories.{named}
use Rattle.program_searches.proofs.Errs.{on_ok_map, on_err_map}
use Rattle.program_searches.proofs.Turning.{behind_pieces}
use Rattle.program_searches.proofs.writing.write_behind.Goals as goal

pub own_turn-requires-clause-worth : goal.own_turn-requires-clause-worth
own_turn-requires-clause-worth g c κs within = to_z-of_z w16 c.args.worth c.ranges.worth ∙ c.requires.worth

pub write_turns-requires-clause-found : goal.write_turns-requires-clause-found
write_turns-requires-clause-found g c κs within = record {
  value_is = c.own_turn.ensures.turn.stays;
  choice_is = c.choice_by_value-choice.ensures.choice;
}

pub write_turns-requires-clause-play : goal.write_turns-requires-clause-play
write_turns-requires-clause-play g c κs within =
    let kept = c.own_turn.ensures.play in
    let room = c.choice_by_value-choice.ensures.room in
    record {
      known = c.requires.play.known;
      play = record { here = kept.play.here; next = kept.play.next; joint = kept.play.joint; room = room.room };
      deep = omega (arith, room.depth, kept.depth, c.requires.play.deep);
    }

pub returns-in_err-write_turn-clause-front : goal.returns-in_err-write_turn-clause-front
returns-in_err-write_turn-clause-front g c =
    let game = named (g.G.Game.rules c.args.game.now) (g.G.Game.role_name c.args.game.now) (g.G.Game.move_name c.args.game.now) in
    let asked = c.args.asked in
    let t = c.own_turn.ensures.turn in
    let pieces = behind_pieces game asked.role (asked.depth - 1) asked.at (g.G.Game.state c.args.game.now c.args.play.now.here) (g.G.Game.state c.args.game.now c.own_turn.new.self.here) c.args.own
    c.own_turn.new.self.joint.items t.reply t.after in
    on_err c.from_residual.result _ (broken _ _ _ _ _ _ _ (begun _ _) pieces c.in_err-write_turn.ensures.front)

pub returns-clause-whole : goal.returns-clause-whole
returns-clause-whole g c =
    let game = named (g.G.Game.rules c.args.game.now) (g.G.Game.role_name c.args.game.now) (g.G.Game.move_name c.args.game.now) in
    let asked = c.args.asked in
    let t = c.own_turn.ensures.turn in
    let pieces = behind_pieces game asked.role (asked.depth - 1) asked.at (g.G.Game.state c.args.game.now c.args.play.now.here) (g.G.Game.state c.args.game.now c.own_turn.new.self.here) c.args.own
    c.own_turn.new.self.joint.items t.reply t.after in
    let turn = further _ _ _ _ _ _ _ (begun _ _) pieces c.in_ok-write_turn.ensures.whole in
    on_ok_map c.write_turns.result _ _ (λ h. ended _ _ _ _ (further _ _ _ _ _ _ _ turn refl h) refl) c.write_turns.ensures.whole

pub returns-clause-front : goal.returns-clause-front
returns-clause-front g c =
    let game = named (g.G.Game.rules c.args.game.now) (g.G.Game.role_name c.args.game.now) (g.G.Game.move_name c.args.game.now) in
    let asked = c.args.asked in
    let t = c.own_turn.ensures.turn in
    let pieces = behind_pieces game asked.role (asked.depth - 1) asked.at (g.G.Game.state c.args.game.now c.args.play.now.here) (g.G.Game.state c.args.game.now c.own_turn.new.self.here) c.args.own
    c.own_turn.new.self.joint.items t.reply t.after in
    let turn = further _ _ _ _ _ _ _ (begun _ _) pieces c.in_ok-write_turn.ensures.whole in
    on_err_map c.write_turns.result _ _ (λ h. broken _ _ _ _ _ _ _ turn refl h) c.write_turns.ensures.front
