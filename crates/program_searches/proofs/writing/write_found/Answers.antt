use Rattle.std.proofs.Common.{refl, ◌≡◌, ◌∙◌, ap, w16, rules as facts}
use Rattle.std.proofs.lemmas.Int.{to_z-of_z}
use mir.Val.{SFits}
use Rattle.std.specs.Prelude.{nat_abs}
use Rattle.program_searches.proofs.Held.{begun, further, ended, broken, on_err}
use Rattle.statement.specs.Value.{value}
use Rattle.game.proofs.Facts.{choice_within}
use Rattle.program_searches.specs.Histories.{named}
use Rattle.program_searches.proofs.Errs.{on_ok_map, on_err_map}
use Rattle.program_searches.proofs.Pieces.{solve_pieces}
use Rattle.program_searches.proofs.writing.write_found.Goals as goal

pub write_choice-requires-clause-chosen : goal.write_choice-requires-clause-chosen
write_choice-requires-clause-chosen g c κs within =
    let law = g.met.G.Game g.world.𝓛 g.world.𝓜 g.world.𝓡 ((λ _ x. x), (λ x. x), (λ x. x), λ x. x) in
    rw c.requires.found.choice_is (choice_within (g.G.Game.rules c.args.game.now) (λ s r below. law.legal_within c.args.game.now s r below) c.args.asked.role c.args.asked.depth
    c.args.asked.at (g.G.Game.state c.args.game.now c.args.play.now.here) c.requires.play.known)

pub returns-in_err-write_count-clause-front : goal.returns-in_err-write_count-clause-front
returns-in_err-write_count-clause-front g c =
    let game = named (g.G.Game.rules c.args.game.now) (g.G.Game.role_name c.args.game.now) (g.G.Game.move_name c.args.game.now) in
    let asked = c.args.asked in
    let state = (g.G.Game.state c.args.game.now c.args.play.now.here) in
    let fits : SFits w16 c.args.found.now.value = search facts in
    let same : c.unsigned.result ≡ value game.rules asked.role asked.depth asked.at state =
    c.unsigned.ensures ∙ ap nat_abs (to_z-of_z w16 c.args.found.now.value fits) ∙ ap nat_abs c.requires.found.value_is in
    let pieces = solve_pieces game asked.role asked.depth asked.at state in
    on_err c.from_residual.result _ (broken _ _ _ _ _ _ _ (begun _ _) pieces (rw same at c.in_err-write_count.ensures.front))

pub returns-in_err-write_choice-clause-front : goal.returns-in_err-write_choice-clause-front
returns-in_err-write_choice-clause-front g c =
    let game = named (g.G.Game.rules c.args.game.now) (g.G.Game.role_name c.args.game.now) (g.G.Game.move_name c.args.game.now) in
    let asked = c.args.asked in
    let state = (g.G.Game.state c.args.game.now c.args.play.now.here) in
    let fits : SFits w16 c.args.found.now.value = search facts in
    let same : c.unsigned.result ≡ value game.rules asked.role asked.depth asked.at state =
    c.unsigned.ensures ∙ ap nat_abs (to_z-of_z w16 c.args.found.now.value fits) ∙ ap nat_abs c.requires.found.value_is in
    let pieces = solve_pieces game asked.role asked.depth asked.at state in
    let value_line = further _ _ _ _ _ _ _ (begun _ _) pieces (rw same at c.in_ok-write_count.ensures.whole) in
    on_err c.from_residual-in_err-write_choice.result _
    (broken _ _ _ _ _ _ _ value_line refl (rw c.requires.found.choice_is at c.in_err-write_choice.ensures.front))

pub returns-clause-whole : goal.returns-clause-whole
returns-clause-whole g c =
    let game = named (g.G.Game.rules c.args.game.now) (g.G.Game.role_name c.args.game.now) (g.G.Game.move_name c.args.game.now) in
    let asked = c.args.asked in
    let state = (g.G.Game.state c.args.game.now c.args.play.now.here) in
    let fits : SFits w16 c.args.found.now.value = search facts in
    let same : c.unsigned.result ≡ value game.rules asked.role asked.depth asked.at state =
    c.unsigned.ensures ∙ ap nat_abs (to_z-of_z w16 c.args.found.now.value fits) ∙ ap nat_abs c.requires.found.value_is in
    let pieces = solve_pieces game asked.role asked.depth asked.at state in
    let value_line = further _ _ _ _ _ _ _ (begun _ _) pieces (rw same at c.in_ok-write_count.ensures.whole) in
    let choice_line = further _ _ _ _ _ _ _ value_line refl (rw c.requires.found.choice_is at c.in_ok-write_choice.ensures.whole) in
    on_ok_map c.write_turns.result _ _ (λ h. ended _ _ _ _ (further _ _ _ _ _ _ _ choice_line refl h) refl) c.write_turns.ensures.whole

pub returns-clause-front : goal.returns-clause-front
returns-clause-front g c =
    let game = named (g.G.Game.rules c.args.game.now) (g.G.Game.role_name c.args.game.now) (g.G.Game.move_name c.args.game.now) in
    let asked = c.args.asked in
    let state = (g.G.Game.state c.args.game.now c.args.play.now.here) in
    let fits : SFits w16 c.args.found.now.value = search facts in
    let same : c.unsigned.result ≡ value game.rules asked.role asked.depth asked.at state =
    c.unsigned.ensures ∙ ap nat_abs (to_z-of_z w16 c.args.found.now.value fits) ∙ ap nat_abs c.requires.found.value_is in
    let pieces = solve_pieces game asked.role asked.depth asked.at state in
    let value_line = further _ _ _ _ _ _ _ (begun _ _) pieces (rw same at c.in_ok-write_count.ensures.whole) in
    let choice_line = further _ _ _ _ _ _ _ value_line refl (rw c.requires.found.choice_is at c.in_ok-write_choice.ensures.whole) in
    on_err_map c.write_turns.result _ _ (λ h. broken _ _ _ _ _ _ _ choice_line refl h) c.write_turns.ensures.front
