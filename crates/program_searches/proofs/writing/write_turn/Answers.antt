use Rattle.std.proofs.Common.{refl}
use Rattle.program_searches.proofs.Held.{begun, further, ended, broken, on_err}
use Rattle.program_searches.specs.Histories.{named}
use Rattle.program_searches.proofs.Errs.{on_ok_map, on_err_map}
use Rattle.program_searches.proofs.Pieces.{turn_pieces}
use Rattle.program_searches.proofs.writing.write_turn.Goals as goal

pub returns-in_err-write_bytes-clause-front : goal.returns-in_err-write_bytes-clause-front
returns-in_err-write_bytes-clause-front g c =
    let pieces = turn_pieces (named (g.G.Game.rules c.args.game.now) (g.G.Game.role_name c.args.game.now) (g.G.Game.move_name c.args.game.now)) c.args.number c.args.joint.now.items in
    on_err c.from_residual.result _ (broken _ _ _ _ _ _ _ (begun _ _) pieces c.in_err-write_bytes.ensures.front)

pub returns-in_err-write_number-clause-front : goal.returns-in_err-write_number-clause-front
returns-in_err-write_number-clause-front g c =
    let pieces = turn_pieces (named (g.G.Game.rules c.args.game.now) (g.G.Game.role_name c.args.game.now) (g.G.Game.move_name c.args.game.now)) c.args.number c.args.joint.now.items in
    let word = further _ _ _ _ _ _ _ (begun _ _) pieces c.in_ok-write_bytes.ensures.whole in
    on_err c.from_residual-in_err-write_number.result _ (broken _ _ _ _ _ _ _ word refl c.in_err-write_number.ensures.front)

pub returns-in_err-write_moves-clause-front : goal.returns-in_err-write_moves-clause-front
returns-in_err-write_moves-clause-front g c =
    let pieces = turn_pieces (named (g.G.Game.rules c.args.game.now) (g.G.Game.role_name c.args.game.now) (g.G.Game.move_name c.args.game.now)) c.args.number c.args.joint.now.items in
    let word = further _ _ _ _ _ _ _ (begun _ _) pieces c.in_ok-write_bytes.ensures.whole in
    let number = further _ _ _ _ _ _ _ word refl c.in_ok-write_number.ensures.whole in
    on_err c.from_residual-in_err-write_moves.result _ (broken _ _ _ _ _ _ _ number refl c.in_err-write_moves.ensures.front)

pub returns-clause-whole : goal.returns-clause-whole
returns-clause-whole g c =
    let pieces = turn_pieces (named (g.G.Game.rules c.args.game.now) (g.G.Game.role_name c.args.game.now) (g.G.Game.move_name c.args.game.now)) c.args.number c.args.joint.now.items in
    let word = further _ _ _ _ _ _ _ (begun _ _) pieces c.in_ok-write_bytes.ensures.whole in
    let number = further _ _ _ _ _ _ _ word refl c.in_ok-write_number.ensures.whole in
    let moves = further _ _ _ _ _ _ _ number refl c.in_ok-write_moves.ensures.whole in
    on_ok_map c.write_bytes-2.result _ _ (λ h. ended _ _ _ _ (further _ _ _ _ _ _ _ moves refl h) refl) c.write_bytes-2.ensures.whole

pub returns-clause-front : goal.returns-clause-front
returns-clause-front g c =
    let pieces = turn_pieces (named (g.G.Game.rules c.args.game.now) (g.G.Game.role_name c.args.game.now) (g.G.Game.move_name c.args.game.now)) c.args.number c.args.joint.now.items in
    let word = further _ _ _ _ _ _ _ (begun _ _) pieces c.in_ok-write_bytes.ensures.whole in
    let number = further _ _ _ _ _ _ _ word refl c.in_ok-write_number.ensures.whole in
    let moves = further _ _ _ _ _ _ _ number refl c.in_ok-write_moves.ensures.whole in
    on_err_map c.write_bytes-2.result _ _ (λ h. broken _ _ _ _ _ _ _ moves refl h) c.write_bytes-2.ensures.front
