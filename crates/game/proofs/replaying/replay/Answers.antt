use Rattle.std.proofs.Common.{◌≡◌, ℕ, List, [], length, sym, ap, ◌∙◌, arith, below_more, take, Ok, Err}
use Rattle.std.proofs.lemmas.List.{length-map}
use Rattle.statement.specs.Tree.{Tree}
use Rattle.kif.specs.View.{tree_of, trees_in}
use Rattle.statement.specs.Tree.{parts_of}
use Rattle.statement.specs.Rules.{State}
use Rattle.statement.specs.Played.{state_after, nth_tree, named_turn, form_faults, played}
use Rattle.game.proofs.FirstFaults.{tree_at_place, length-parts, no_fault, state_more, turn_refused, all_played, err_given}
use Rattle.game.proofs.replaying.replay.Goals as goal

pub read_turn-requires-clause-parts : goal.read_turn-requires-clause-parts
read_turn-requires-clause-parts g c κs within =
    let ts = trees_in c.args.turns.now in
    let size : length ts ≡ length c.args.turns.now = length-map c.args.turns.now tree_of in
    let at = tree_at_place c.args.turns.now c.loop-place.place c.index-turns-place.result (omega arith) c.index-turns-place.is in
    let formed = c.in_ok-check_forms.ensures.formed c.loop-place.place (omega arith) in
    let count = length-parts c.roles.result (nth_tree ts c.loop-place.place) formed in
    sym (length-map c.parts.result.now tree_of) ∙ ap length (c.parts.ensures ∙ ap parts_of (sym at)) ∙ count ∙ c.roles.ensures

pub returns-in_err-read_turn-clause-refused : goal.returns-in_err-read_turn-clause-refused
returns-in_err-read_turn-clause-refused g c =
    let ts = trees_in c.args.turns.now in
    let game = g.G.Game.rules c.args.game.now in
    let names = g.G.Game.move_name c.args.game.now in
    let size : length ts ≡ length c.args.turns.now = length-map c.args.turns.now tree_of in
    let at = tree_at_place c.args.turns.now c.loop-place.place c.index-turns-place.result (omega arith) c.index-turns-place.is in
    let parts = c.parts.ensures ∙ ap parts_of (sym at) in
    let forms : form_faults game.roles ts ≡ [] = ap (λ (n : ℕ). form_faults n ts) (sym c.roles.ensures)
    ∙ no_fault _ _ _ (sym c.in_ok-check_forms.ensures.faults) in
    let refused : played game names ts ≡ Err c.in_err-read_turn.field-0.0 =
    turn_refused game names ts c.loop-place.place c.in_err-read_turn.field-0.0 forms (omega arith) c.loop-place.invariant.clear
    (rw (← c.loop-place.invariant.state, ← parts) (sym c.in_err-read_turn.ensures.faults)) in
    err_given c.from_residual-in_err-read_turn.result _ _ c.from_residual-in_err-read_turn.ensures.1 (λ fault same _. rw same refused)

pub returns-in_err-read_turn-clause-role : goal.returns-in_err-read_turn-clause-role
returns-in_err-read_turn-clause-role g c =
    err_given c.from_residual-in_err-read_turn.result _ _ c.from_residual-in_err-read_turn.ensures.1
    (λ fault same. rw same c.in_err-read_turn.ensures.role)

pub loop-place-preserved : goal.loop-place-preserved
loop-place-preserved g c =
    let ts = trees_in c.args.turns.now in
    let place = c.loop-place.place in
    let game = g.G.Game.rules c.args.game.now in
    let names = g.G.Game.move_name c.args.game.now in
    let size : length ts ≡ length c.args.turns.now = length-map c.args.turns.now tree_of in
    let at = tree_at_place c.args.turns.now place c.index-turns-place.result (omega arith) c.index-turns-place.is in
    let parts : trees_in c.parts.result.now ≡ parts_of (nth_tree ts place) = c.parts.ensures ∙ ap parts_of (sym at) in
    let known : g.G.Game.state c.args.game.now c.loop-place.here ≡ state_after game names (take place ts) = c.loop-place.invariant.state in
    let here = no_fault _ _ _ (sym c.in_ok-read_turn.ensures.faults) in
    record {
      here = rw c.swap.ensures.x_after c.step.ensures.fits;
      next = rw c.swap.ensures.y_after c.loop-place.invariant.here;
      size = c.read_turn.ensures.length;
      state =
          ap (g.G.Game.state c.args.game.now) c.swap.ensures.x_after
          ∙ c.step.ensures.after
          ∙ ap (λ (j : List ℕ). game.after (g.G.Game.state c.args.game.now c.loop-place.here) j) c.in_ok-read_turn.ensures.moves
          ∙ ap (λ (s : State). game.after s (named_turn game names s (trees_in c.parts.result.now))) known
          ∙ ap (λ (us : List Tree). game.after (state_after game names (take place ts))
          (named_turn game names (state_after game names (take place ts)) us)) parts
          ∙ sym (state_more game names ts place (omega arith));
      clear = below_more _ _ c.loop-place.invariant.clear (rw (← known, ← parts) here);
    }

pub returns-clause-played : goal.returns-clause-played
returns-clause-played g c =
    let ts = trees_in c.args.turns.now in
    let game = g.G.Game.rules c.args.game.now in
    let names = g.G.Game.move_name c.args.game.now in
    let size : length ts ≡ length c.args.turns.now = length-map c.args.turns.now tree_of in
    let forms : form_faults game.roles ts ≡ [] = ap (λ (n : ℕ). form_faults n ts) (sym c.roles.ensures)
    ∙ no_fault _ _ _ (sym c.in_ok-check_forms.ensures.faults) in
    all_played game names ts c.loop-place.place forms (omega arith) (omega arith) c.loop-place.invariant.clear
    ∙ ap Ok (sym (c.copy.ensures.same ∙ c.loop-place.invariant.state))
