use Rattle.std.proofs.Common.{refl}
use Rattle.program_searches.proofs.Held.{begun, further, ended, broken, on_err}
use Rattle.program_searches.specs.Histories.{named}
use Rattle.statement.specs.Solving.{choice_text}
use Rattle.program_searches.proofs.Errs.{on_ok_map, on_err_map}
use Rattle.program_searches.proofs.Pieces.{move_pieces}
use Rattle.program_searches.proofs.writing.write_choice.Goals as goal

pub returns-in_err-write_bytes-clause-front : goal.returns-in_err-write_bytes-clause-front
returns-in_err-write_bytes-clause-front g c =
    let pieces = move_pieces (choice_text (named (g.G.Game.rules c.args.game.now) (g.G.Game.role_name c.args.game.now) (g.G.Game.move_name c.args.game.now)) c.args.role c.args.chosen) in
    on_err c.from_residual.result _ (broken _ _ _ _ _ _ _ (begun _ _) pieces c.in_err-write_bytes.ensures.front)

pub returns-in_err-write_bytes-2-clause-front : goal.returns-in_err-write_bytes-2-clause-front
returns-in_err-write_bytes-2-clause-front g c =
    let pieces = move_pieces (choice_text (named (g.G.Game.rules c.args.game.now) (g.G.Game.role_name c.args.game.now) (g.G.Game.move_name c.args.game.now)) c.args.role c.args.chosen) in
    let word = further _ _ _ _ _ _ _ (begun _ _) pieces c.in_ok-write_bytes.ensures.whole in
    on_err c.from_residual-in_err-write_bytes-2.result _
    (broken _ _ _ _ _ _ _ word refl (rw c.choice_text.ensures at c.in_err-write_bytes-2.ensures.front))

pub returns-clause-whole : goal.returns-clause-whole
returns-clause-whole g c =
    let pieces = move_pieces (choice_text (named (g.G.Game.rules c.args.game.now) (g.G.Game.role_name c.args.game.now) (g.G.Game.move_name c.args.game.now)) c.args.role c.args.chosen) in
    let word = further _ _ _ _ _ _ _ (begun _ _) pieces c.in_ok-write_bytes.ensures.whole in
    let text = further _ _ _ _ _ _ _ word refl (rw c.choice_text.ensures at c.in_ok-write_bytes-2.ensures.whole) in
    on_ok_map c.write_bytes-3.result _ _ (λ h. ended _ _ _ _ (further _ _ _ _ _ _ _ text refl h) refl) c.write_bytes-3.ensures.whole

pub returns-clause-front : goal.returns-clause-front
returns-clause-front g c =
    let pieces = move_pieces (choice_text (named (g.G.Game.rules c.args.game.now) (g.G.Game.role_name c.args.game.now) (g.G.Game.move_name c.args.game.now)) c.args.role c.args.chosen) in
    let word = further _ _ _ _ _ _ _ (begun _ _) pieces c.in_ok-write_bytes.ensures.whole in
    let text = further _ _ _ _ _ _ _ word refl (rw c.choice_text.ensures at c.in_ok-write_bytes-2.ensures.whole) in
    on_err_map c.write_bytes-3.result _ _ (λ h. broken _ _ _ _ _ _ _ text refl h) c.write_bytes-3.ensures.front
