use Rattle.std.proofs.Common.{rules as facts, refl, ◌≡◌, ℕ, get_or, arith}
use Rattle.std.specs.Prelude.{slice_index}
use Rattle.std.proofs.lemmas.List.FromFn.{length-map-range_with_len, get_or-map-range_with_len}
use Rattle.program_searches.proofs.Held.{begun, further, ended, broken, on_err}
use Rattle.program_searches.specs.Histories.{named}
use Rattle.statement.specs.Solving.{move_texts}
use Rattle.program_searches.proofs.Spacing.{spaced_next, spaced_done}
use Rattle.program_searches.proofs.writing.write_moves.Goals as goal

pub loop-role-init : goal.loop-role-init
loop-role-init g c = begun _ _

pub loop-role-preserved : goal.loop-role-preserved
loop-role-preserved g c =
    let game = g.G.Game.rules c.args.game.now in
    let names = g.G.Game.move_name c.args.game.now in
    let role = c.loop-role.role in
    let text = λ (q : ℕ). names q (slice_index c.args.joint.now.items q) in
    let all = move_texts (named (g.G.Game.rules c.args.game.now) (g.G.Game.role_name c.args.game.now) (g.G.Game.move_name c.args.game.now)) c.args.joint.now.items in
    let count = length-map-range_with_len text 0 game.roles in
    let here : get_or all role (text role) ≡ text role =
    get_or-map-range_with_len text 0 game.roles role role (text role) (omega arith) (omega arith) in
    let left = spaced_next all role (text role) (omega (arith, count)) here in
    let same : c.move_text.result.now ≡ text role = search facts in
    let space = further _ _ _ _ _ _ _ c.loop-role.invariant left c.in_ok-write_bytes.ensures.whole in
    further _ _ _ _ _ _ _ space refl (rw same at c.in_ok-write_bytes-2.ensures.whole)

pub returns-in_err-write_bytes-clause-front : goal.returns-in_err-write_bytes-clause-front
returns-in_err-write_bytes-clause-front g c =
    let game = g.G.Game.rules c.args.game.now in
    let names = g.G.Game.move_name c.args.game.now in
    let role = c.loop-role.role in
    let text = λ (q : ℕ). names q (slice_index c.args.joint.now.items q) in
    let all = move_texts (named (g.G.Game.rules c.args.game.now) (g.G.Game.role_name c.args.game.now) (g.G.Game.move_name c.args.game.now)) c.args.joint.now.items in
    let count = length-map-range_with_len text 0 game.roles in
    let here : get_or all role (text role) ≡ text role =
    get_or-map-range_with_len text 0 game.roles role role (text role) (omega arith) (omega arith) in
    let left = spaced_next all role (text role) (omega (arith, count)) here in
    on_err c.from_residual.result _ (broken _ _ _ _ _ _ _ c.loop-role.invariant left c.in_err-write_bytes.ensures.front)

pub returns-in_err-write_bytes-2-clause-front : goal.returns-in_err-write_bytes-2-clause-front
returns-in_err-write_bytes-2-clause-front g c =
    let game = g.G.Game.rules c.args.game.now in
    let names = g.G.Game.move_name c.args.game.now in
    let role = c.loop-role.role in
    let text = λ (q : ℕ). names q (slice_index c.args.joint.now.items q) in
    let all = move_texts (named (g.G.Game.rules c.args.game.now) (g.G.Game.role_name c.args.game.now) (g.G.Game.move_name c.args.game.now)) c.args.joint.now.items in
    let count = length-map-range_with_len text 0 game.roles in
    let here : get_or all role (text role) ≡ text role =
    get_or-map-range_with_len text 0 game.roles role role (text role) (omega arith) (omega arith) in
    let left = spaced_next all role (text role) (omega (arith, count)) here in
    let same : c.move_text.result.now ≡ text role = search facts in
    let space = further _ _ _ _ _ _ _ c.loop-role.invariant left c.in_ok-write_bytes.ensures.whole in
    on_err c.from_residual-in_err-write_bytes-2.result _ (broken _ _ _ _ _ _ _ space refl (rw same at c.in_err-write_bytes-2.ensures.front))

pub returns-clause-whole : goal.returns-clause-whole
returns-clause-whole g c =
    let game = g.G.Game.rules c.args.game.now in
    let names = g.G.Game.move_name c.args.game.now in
    let text = λ (q : ℕ). names q (slice_index c.args.joint.now.items q) in
    let all = move_texts (named (g.G.Game.rules c.args.game.now) (g.G.Game.role_name c.args.game.now) (g.G.Game.move_name c.args.game.now)) c.args.joint.now.items in
    let count = length-map-range_with_len text 0 game.roles in
    ended _ _ _ _ c.loop-role.invariant (spaced_done all c.loop-role.role (omega (arith, count)))
